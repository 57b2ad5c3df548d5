use Rattle.std.proofs.lemmas.Result.{IfOk-from_err}
use Rattle.choice_inputs.proofs.tables.put_last.Goals as goal

pub returns-in_err-step : goal.returns-in_err-step
returns-in_err-step c = IfOk-from_err _ _ c.from_residual.ensures.0

pub returns-in_err-push : goal.returns-in_err-push
returns-in_err-push c = IfOk-from_err _ _ c.from_residual-in_err-push.ensures.0
