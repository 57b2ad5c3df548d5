use Rattle.std.proofs.lemmas.Result.{IfOk-from_err}
use Rattle.lhs_alias.proofs.lhs.put_below.Goals as goal

pub returns-in_err-push-clause-bits : goal.returns-in_err-push-clause-bits
returns-in_err-push-clause-bits c = IfOk-from_err _ _ c.from_residual.ensures.0

pub returns-in_err-push-clause-segs : goal.returns-in_err-push-clause-segs
returns-in_err-push-clause-segs c = IfOk-from_err _ _ c.from_residual.ensures.0

pub returns-in_err-push-clause-united : goal.returns-in_err-push-clause-united
returns-in_err-push-clause-united c = IfOk-from_err _ _ c.from_residual.ensures.0
