use Rattle.std.proofs.lemmas.Result.{IfOk-from_err}
use Rattle.net_order.proofs.groups.put_group.Goals as goal

pub returns-in_err-members : goal.returns-in_err-members
returns-in_err-members c = IfOk-from_err _ _ c.from_residual.ensures.0

pub returns-in_err-push : goal.returns-in_err-push
returns-in_err-push c = IfOk-from_err _ _ c.from_residual-in_err-push.ensures.0
