use Rattle.std.proofs.Common.{◌≤◌, ◌-◌, take, reverse}
use Rattle.sat_search.specs.Learn.{ExplainsOver, IsTraced}
use Rattle.sat_search.proofs.learn.shorten.Given as goal

abbrev pub invariant-loop-next : goal.invariant-loop-next
invariant-loop-next l = record {
  most : l.next ≤ l.left;
  enough : ExplainsOver l.store (reverse (take l.left l.trail.entries)) (reverse (take (l.next - 1) l.trail.entries)) l.seen l.hints.items;
  traced : IsTraced l.seen (reverse (take l.left l.trail.entries));
}

abbrev pub decreases-loop-next : goal.decreases-loop-next
decreases-loop-next l = l.next
