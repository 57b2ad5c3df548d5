use Rattle.std.proofs.lemmas.Result.{IfOk-from_err}
use Rattle.sv_lower.proofs.operators.denied_pair.Goals as goal

pub returns-in_err-pair-clause-ok : goal.returns-in_err-pair-clause-ok
returns-in_err-pair-clause-ok c = IfOk-from_err _ _ c.from_residual.ensures.0
