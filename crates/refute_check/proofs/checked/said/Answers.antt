use Rattle.refute_check.proofs.Judging.{bad_as}
use Rattle.refute_check.proofs.checked.said.Goals as goal

pub returns-in-Err-clause-bad : goal.returns-in-Err-clause-bad
returns-in-Err-clause-bad c = bad_as c.args.cnf c.args.log c.args.verdict c.in-Err.bad c.in-Err.is c.requires.bad
