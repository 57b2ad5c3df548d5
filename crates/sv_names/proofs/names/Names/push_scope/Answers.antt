use Rattle.std.proofs.lemmas.Result.{IfOk-from_err}
use Rattle.sv_names.proofs.names.Names.push_scope.Goals as goal

pub returns-in_err-push-clause-above : goal.returns-in_err-push-clause-above
returns-in_err-push-clause-above c = IfOk-from_err _ _ c.from_residual.ensures.0

pub returns-in_err-push-clause-frames : goal.returns-in_err-push-clause-frames
returns-in_err-push-clause-frames c = IfOk-from_err _ _ c.from_residual.ensures.0

pub returns-in_err-push-clause-loops : goal.returns-in_err-push-clause-loops
returns-in_err-push-clause-loops c = IfOk-from_err _ _ c.from_residual.ensures.0
