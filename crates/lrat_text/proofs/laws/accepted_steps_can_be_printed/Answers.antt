use Rattle.lrat_text.proofs.Accepted.{accepted_can}
use Rattle.lrat_text.proofs.laws.accepted_steps_can_be_printed.Goals as goal

pub returns : goal.returns
returns c = λ a. accepted_can c.args.cnf.now c.args.log.now a
