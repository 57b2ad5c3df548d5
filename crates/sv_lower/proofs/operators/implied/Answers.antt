use Rattle.std.proofs.lemmas.Result.{IfOk-from_err}
use Rattle.sv_lower.proofs.operators.implied.Goals as goal

pub returns-in_err-a-clause-ok : goal.returns-in_err-a-clause-ok
returns-in_err-a-clause-ok c = IfOk-from_err _ _ c.from_residual.ensures.0
