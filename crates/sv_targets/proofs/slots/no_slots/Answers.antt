use Rattle.std.proofs.lemmas.Result.{IfOk-from_err}
use Rattle.sv_targets.proofs.slots.no_slots.Goals as goal

pub returns-in_err-push-clause-is : goal.returns-in_err-push-clause-is
returns-in_err-push-clause-is c = IfOk-from_err _ _ c.from_residual.ensures.0

pub returns-in_err-push-clause-most : goal.returns-in_err-push-clause-most
returns-in_err-push-clause-most c = IfOk-from_err _ _ c.from_residual.ensures.0

pub returns-in_err-push-clause-near : goal.returns-in_err-push-clause-near
returns-in_err-push-clause-near c = IfOk-from_err _ _ c.from_residual.ensures.0
