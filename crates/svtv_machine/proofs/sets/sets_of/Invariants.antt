use Rattle.std.proofs.Common.{◌≢◌, ℕ, ◌<◌}
use Rattle.std.specs.List.{All, AllPairs}
use Rattle.svtv_unroll.specs.Unrolled.{HasSet}
use Rattle.svtv_machine.specs.Sets.{IsOfPhase, AreByFirstPhase}
use Rattle.svtv_machine.proofs.sets.sets_of.Given as goal

abbrev pub invariant-phases : goal.invariant-phases
invariant-phases l = record {
  all : (k : ℕ) → k < l.phase → HasSet l.sets l.bound.overs k;
  once : AllPairs ◌≢◌ l.sets;
  only : All (IsOfPhase l.bound.overs l.phase) l.sets;
  order : AreByFirstPhase l.bound.overs l.phase l.sets;
}
