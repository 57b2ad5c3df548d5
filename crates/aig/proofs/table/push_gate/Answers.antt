use Rattle.std.proofs.lemmas.Result.{IfOk-from_err}
use Rattle.aig.proofs.table.push_gate.Goals as goal

pub returns-in_err-push-clause-gates : goal.returns-in_err-push-clause-gates
returns-in_err-push-clause-gates c = IfOk-from_err _ _ c.from_residual-in_err-push.ensures.0

pub returns-in_err-push-clause-node : goal.returns-in_err-push-clause-node
returns-in_err-push-clause-node c = IfOk-from_err _ _ c.from_residual-in_err-push.ensures.0

pub returns-in_err-reserve-clause-gates : goal.returns-in_err-reserve-clause-gates
returns-in_err-reserve-clause-gates c = IfOk-from_err _ _ c.from_residual.ensures.0

pub returns-in_err-reserve-clause-node : goal.returns-in_err-reserve-clause-node
returns-in_err-reserve-clause-node c = IfOk-from_err _ _ c.from_residual.ensures.0
