use Rattle.flat_net.proofs.Leasts.{exists, rises}
use Rattle.flat_net.proofs.laws.least_settling.Goals as goal

-- src/laws.rt:9:1
pub returns-clause-exists : goal.returns-clause-exists
returns-clause-exists c = exists c.args.flat.now c.len.ensures.arena c.requires

-- src/laws.rt:9:1
pub returns-clause-rises : goal.returns-clause-rises
returns-clause-rises c = rises c.args.flat.now c.len.ensures.arena c.requires
