use Rattle.std.proofs.lemmas.Result.{IfOk-from_err}
use Rattle.sv_lower.proofs.operators.denied.Goals as goal

pub returns-in_err-bit-clause-ok : goal.returns-in_err-bit-clause-ok
returns-in_err-bit-clause-ok c = IfOk-from_err _ _ c.from_residual.ensures.0
