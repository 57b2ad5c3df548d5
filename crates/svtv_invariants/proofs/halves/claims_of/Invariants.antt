use Rattle.std.proofs.Common.{◌≡◌, take}
use Rattle.svtv_invariants.specs.Halving.{claims_in}
use Rattle.svtv_invariants.proofs.halves.claims_of.Given as goal

abbrev pub invariant-goals : goal.invariant-goals
invariant-goals l = l.claims ≡ claims_in (take l.goal-index l.goals)
