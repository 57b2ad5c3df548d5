use Rattle.hash_index.proofs.Keeping.{kept_linked}
use Rattle.hash_index.proofs.index.HashIndex.find.Goals as goal

pub find-requires-clause-linked : goal.find-requires-clause-linked
find-requires-clause-linked g c = rw (c.deref.ensures.value, c.deref-2.ensures.value, c.deref-3.ensures.value, c.deref-4.ensures.value)
    (kept_linked c.self.inside.hashes.items c.self.inside.low.items c.self.inside.high.items c.self.inside.roots.items c.self.invariant)
