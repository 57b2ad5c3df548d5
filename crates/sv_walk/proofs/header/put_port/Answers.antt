use Rattle.std.proofs.lemmas.Result.{IfOk-from_err}
use Rattle.sv_walk.proofs.header.put_port.Goals as goal

pub returns-in_err-layout-clause-layout : goal.returns-in_err-layout-clause-layout
returns-in_err-layout-clause-layout c = IfOk-from_err _ _ c.from_residual.ensures.0

pub returns-in_err-layout-clause-ports : goal.returns-in_err-layout-clause-ports
returns-in_err-layout-clause-ports c = IfOk-from_err _ _ c.from_residual.ensures.0

pub returns-in_err-push-clause-layout : goal.returns-in_err-push-clause-layout
returns-in_err-push-clause-layout c = IfOk-from_err _ _ c.from_residual-in_err-push.ensures.0

pub returns-in_err-push-clause-ports : goal.returns-in_err-push-clause-ports
returns-in_err-push-clause-ports c = IfOk-from_err _ _ c.from_residual-in_err-push.ensures.0
