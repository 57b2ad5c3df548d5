use Rattle.std.proofs.lemmas.Result.{IfOk-from_err}
use Rattle.net_resolve.proofs.pieces.resolution.Goals as goal

pub returns-in_err-node-clause-pair : goal.returns-in_err-node-clause-pair
returns-in_err-node-clause-pair c = IfOk-from_err _ _ c.from_residual.ensures.0
