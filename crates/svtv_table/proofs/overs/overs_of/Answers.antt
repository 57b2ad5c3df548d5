use Rattle.std.proofs.lemmas.Result.{IfOk-from_err}
use Rattle.svtv_table.proofs.overs.overs_of.Goals as goal

pub returns-in_err-over-clause-fine : goal.returns-in_err-over-clause-fine
returns-in_err-over-clause-fine c = IfOk-from_err _ _ c.from_residual.ensures.0

pub returns-in_err-over-clause-overs : goal.returns-in_err-over-clause-overs
returns-in_err-over-clause-overs c = IfOk-from_err _ _ c.from_residual.ensures.0

pub returns-in_err-push-clause-fine : goal.returns-in_err-push-clause-fine
returns-in_err-push-clause-fine c = IfOk-from_err _ _ c.from_residual-in_err-push.ensures.0

pub returns-in_err-push-clause-overs : goal.returns-in_err-push-clause-overs
returns-in_err-push-clause-overs c = IfOk-from_err _ _ c.from_residual-in_err-push.ensures.0
