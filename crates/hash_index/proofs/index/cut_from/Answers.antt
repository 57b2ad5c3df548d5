use Rattle.std.proofs.Common.{ℕ, List, subst}
use Rattle.hash_index.specs.Tree.{IsLinked}
use Rattle.hash_index.proofs.Keeping.{slice_back, kept_linked, kept_taken}
use Rattle.hash_index.proofs.index.cut_from.Goals as goal

pub unlink_from-requires-clause-linked : goal.unlink_from-requires-clause-linked
unlink_from-requires-clause-linked c =
    rw (c.deref.ensures.value, c.deref_mut.ensures.value, c.deref_mut-2.ensures.value, c.deref_mut-3.ensures.value)
    (kept_linked c.args.hashes.now.items c.args.low.now.items c.args.high.now.items c.args.roots.now.items c.requires.kept)

pub returns-clause-kept : goal.returns-clause-kept
returns-clause-kept c =
    let low = c.args.low.now in
    let high = c.args.high.now in
    let roots = c.args.roots.now in
    let new = c.unlink_from.new in
    let auto = c.unlink_from.auto in
    rw (
      c.truncate.ensures.items,
      c.truncate-2.ensures.items,
      c.truncate-3.ensures.items,
      slice_back low.len new.low low.items c.deref_mut.result.now low.ok.0 auto.low c.deref_mut.ensures.value,
      slice_back high.len new.high high.items c.deref_mut-2.result.now high.ok.0 auto.high c.deref_mut-2.ensures.value,
      slice_back roots.len new.roots roots.items c.deref_mut-3.result.now roots.ok.0 auto.roots c.deref_mut-3.ensures.value,
    )
    (kept_taken c.args.len c.args.hashes.now.items new.low new.high new.roots c.requires.within
    (subst (λ (xs : List ℕ). IsLinked c.args.len xs new.low new.high new.roots) c.deref.ensures.value c.unlink_from.ensures))
