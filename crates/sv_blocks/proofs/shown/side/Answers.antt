use Rattle.std.proofs.lemmas.Result.{IfOk-from_err}
use Rattle.sv_blocks.proofs.shown.side.Goals as goal

pub returns-in_err-node-2-clause-ok : goal.returns-in_err-node-2-clause-ok
returns-in_err-node-2-clause-ok c = IfOk-from_err _ _ c.from_residual-in_err-node-2.ensures.0

pub returns-in_err-node-clause-ok : goal.returns-in_err-node-clause-ok
returns-in_err-node-clause-ok c = IfOk-from_err _ _ c.from_residual.ensures.0
