use Rattle.std.proofs.lemmas.Result.{IfOk-from_err}
use Rattle.net_order.proofs.tellers.put.Goals as goal

pub returns-in_err-grow-clause-here : goal.returns-in_err-grow-clause-here
returns-in_err-grow-clause-here c = IfOk-from_err _ _ c.from_residual.ensures.0

pub returns-in_err-grow-clause-others : goal.returns-in_err-grow-clause-others
returns-in_err-grow-clause-others c = IfOk-from_err _ _ c.from_residual.ensures.0

pub returns-in_err-push-clause-here : goal.returns-in_err-push-clause-here
returns-in_err-push-clause-here c = IfOk-from_err _ _ c.from_residual-in_err-push.ensures.0

pub returns-in_err-push-clause-others : goal.returns-in_err-push-clause-others
returns-in_err-push-clause-others c = IfOk-from_err _ _ c.from_residual-in_err-push.ensures.0
