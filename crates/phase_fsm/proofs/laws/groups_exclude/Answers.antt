use Rattle.phase_fsm.proofs.Excluding.{one-excludes, first-excludes}
use Rattle.phase_fsm.proofs.laws.groups_exclude.Goals as goal

pub returns-clause-one : goal.returns-clause-one
returns-clause-one c = one-excludes

pub returns-clause-first : goal.returns-clause-first
returns-clause-first c = first-excludes
