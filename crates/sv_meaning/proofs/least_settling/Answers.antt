use Rattle.sv_meaning.proofs.Leasts.{least_settling_exists, least_settling_rises}
use Rattle.sv_meaning.proofs.least_settling.Goals as goal

pub returns-clause-exists : goal.returns-clause-exists
returns-clause-exists c = least_settling_exists

pub returns-clause-rises : goal.returns-clause-rises
returns-clause-rises c = least_settling_rises
