use Rattle.std.proofs.lemmas.Result.{IfOk-from_err}
use Rattle.net_order.proofs.tellers.grow.Goals as goal

pub returns-in_err-push-clause-room : goal.returns-in_err-push-clause-room
returns-in_err-push-clause-room c = IfOk-from_err _ _ c.from_residual.ensures.0

pub returns-in_err-push-clause-same : goal.returns-in_err-push-clause-same
returns-in_err-push-clause-same c = IfOk-from_err _ _ c.from_residual.ensures.0
