use Rattle.std.proofs.Common.{◌≤◌, length, reverse, take}
use Rattle.sat_search.specs.Learn.{IsClear, IsAnchored}
use Rattle.sat_search.proofs.back.is_clear.Given as goal

-- what the rest shows holds of the whole
abbrev pub invariant-loop-i : goal.invariant-loop-i
invariant-loop-i l = record {
  range : l.i ≤ length l.trail;
  clear : IsClear l.seen (reverse (take l.i l.trail)) → IsClear l.seen (reverse l.trail);
  anchored : IsAnchored l.seen (reverse (take l.i l.trail)) → IsAnchored l.seen (reverse l.trail);
}

abbrev pub decreases-loop-i : goal.decreases-loop-i
decreases-loop-i l = l.i
