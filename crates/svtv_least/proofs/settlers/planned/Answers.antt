use Rattle.svtv_least.proofs.settlers.planned.Goals as goal

pub add_phase-requires-clause-plan : goal.add_phase-requires-clause-plan
add_phase-requires-clause-plan c = c.phases.invariant
