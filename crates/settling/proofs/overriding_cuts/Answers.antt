use Rattle.settling.proofs.Overriding.{overriding_tells, none_overridden, overriding_rises}
use Rattle.settling.proofs.overriding_cuts.Goals as goal

pub returns-clause-tells : goal.returns-clause-tells
returns-clause-tells c = overriding_tells

pub returns-clause-none : goal.returns-clause-none
returns-clause-none c = none_overridden

pub returns-clause-rises : goal.returns-clause-rises
returns-clause-rises c = overriding_rises
