use Rattle.std.proofs.Common.{◌≤◌, length, take, reverse}
use Rattle.sat_search.specs.Learn.{Explains}
use Rattle.sat_search.proofs.learn.trace.Given as goal

abbrev pub invariant-loop-i : goal.invariant-loop-i
invariant-loop-i l = record {
  range : l.i ≤ length l.trail.entries;
  explains : Explains l.store (reverse (take l.i l.trail.entries)) l.seen l.hints.items;
}

abbrev pub decreases-loop-i : goal.decreases-loop-i
decreases-loop-i l = l.i
