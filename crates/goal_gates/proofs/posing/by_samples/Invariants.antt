use Rattle.std.proofs.Common.{◌≡◌, map, take, Some}
use Rattle.goal_gates.proofs.posing.by_samples.Given as goal

abbrev pub invariant-loop-at : goal.invariant-loop-at
invariant-loop-at l = l.sampled.items ≡ map Some (take l.at l.samples)
