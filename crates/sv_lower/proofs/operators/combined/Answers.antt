use Rattle.std.proofs.lemmas.Result.{IfOk-from_err}
use Rattle.sv_lower.proofs.operators.combined.Goals as goal

pub returns-in_err-a-clause-ok : goal.returns-in_err-a-clause-ok
returns-in_err-a-clause-ok c = IfOk-from_err _ _ c.from_residual.ensures.0

pub returns-in_err-b-clause-ok : goal.returns-in_err-b-clause-ok
returns-in_err-b-clause-ok c = IfOk-from_err _ _ c.from_residual-in_err-b.ensures.0
