use Rattle.svtv_least.specs.Running.{IsPlan}
use Rattle.svtv_least.proofs.settlers.planned.Given as goal

abbrev pub invariant-phases : goal.invariant-phases
invariant-phases l = IsPlan l.flat l.bound.overs l.plan l.phase
