use Rattle.settling.proofs.Least.{least_exists, least_rises}
use Rattle.settling.proofs.least_settling.Goals as goal

pub returns-clause-exists : goal.returns-clause-exists
returns-clause-exists c = least_exists

pub returns-clause-rises : goal.returns-clause-rises
returns-clause-rises c = least_rises
