use Rattle.std.proofs.lemmas.Result.{IfOk-from_err}
use Rattle.event_nets.proofs.lay.add_wire.Goals as goal

pub returns-in_err-push-2-clause-starts : goal.returns-in_err-push-2-clause-starts
returns-in_err-push-2-clause-starts c = IfOk-from_err _ _ c.from_residual-in_err-push-2.ensures.0

pub returns-in_err-push-2-clause-told : goal.returns-in_err-push-2-clause-told
returns-in_err-push-2-clause-told c = IfOk-from_err _ _ c.from_residual-in_err-push-2.ensures.0

pub returns-in_err-push-clause-starts : goal.returns-in_err-push-clause-starts
returns-in_err-push-clause-starts c = IfOk-from_err _ _ c.from_residual.ensures.0

pub returns-in_err-push-clause-told : goal.returns-in_err-push-clause-told
returns-in_err-push-clause-told c = IfOk-from_err _ _ c.from_residual.ensures.0
