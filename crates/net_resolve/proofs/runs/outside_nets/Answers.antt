use Rattle.std.proofs.lemmas.Result.{IfOk-from_err}
use Rattle.net_resolve.proofs.runs.outside_nets.Goals as goal

pub returns-in_err-push-clause-len : goal.returns-in_err-push-clause-len
returns-in_err-push-clause-len c = IfOk-from_err _ _ c.from_residual.ensures.0

pub returns-in_err-push-clause-marks : goal.returns-in_err-push-clause-marks
returns-in_err-push-clause-marks c = IfOk-from_err _ _ c.from_residual.ensures.0
