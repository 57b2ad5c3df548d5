use Rattle.std.proofs.lemmas.Result.{IfOk-from_err}
use Rattle.svtv_table.proofs.values.put_value.Goals as goal

pub returns-in_err-value-clause-fine : goal.returns-in_err-value-clause-fine
returns-in_err-value-clause-fine c = IfOk-from_err _ _ c.from_residual.ensures.0

pub returns-in_err-value-clause-values : goal.returns-in_err-value-clause-values
returns-in_err-value-clause-values c = IfOk-from_err _ _ c.from_residual.ensures.0
