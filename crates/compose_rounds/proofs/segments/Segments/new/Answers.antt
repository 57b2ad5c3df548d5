use Rattle.compose_rounds.proofs.Linking.{both_linked}
use Rattle.compose_rounds.proofs.segments.Segments.new.Goals as goal

pub invariant_of-result : goal.invariant_of-result
invariant_of-result c =
    both_linked c.args.eqs.items c.args.free.items c.deref.result.now c.deref-2.result.now c.new-newest.result.items c.new-older.result.items
    c.link_all.new.newest.items c.link_all.new.older.items c.link_all-2.new.newest.items c.link_all-2.new.older.items
    c.new-newest.ensures.items c.new-older.ensures.items c.deref.ensures.value c.deref-2.ensures.value
    c.in_ok-link_all.ensures.len c.in_ok-link_all.ensures.linked c.in_ok-link_all-2.ensures.len c.in_ok-link_all-2.ensures.linked
