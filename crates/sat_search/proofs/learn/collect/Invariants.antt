use Rattle.std.proofs.Common.{◌≡◌, ◌≤◌, ◌++◌, length, take}
use Rattle.std.specs.List.{filter}
use Rattle.sat_state.specs.Trail.{falses}
use Rattle.sat_search.specs.Learn.{seen_at}
use Rattle.sat_search.proofs.learn.collect.Given as goal

abbrev pub invariant-loop-i : goal.invariant-loop-i
invariant-loop-i l = record {
  range : l.i ≤ length l.trail;
  rest : l.clause.items ++ filter (λ d. seen_at l.seen d.var) (falses (take l.i l.trail)) ≡ filter (λ d. seen_at l.seen d.var) (falses l.trail);
}

abbrev pub decreases-loop-i : goal.decreases-loop-i
decreases-loop-i l = l.i
