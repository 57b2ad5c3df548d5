use Rattle.std.proofs.lemmas.Result.{IfOk-from_err}
use Rattle.sv_lower.proofs.Indices.{from_index}
use Rattle.sv_lower.proofs.places.part_at.Goals as goal

pub returns-clause-ok : goal.returns-clause-ok
returns-clause-ok c = from_index _ _ _ _ _ _ c.in_ok-node.ensures.ok

pub returns-in_err-node-clause-ok : goal.returns-in_err-node-clause-ok
returns-in_err-node-clause-ok c = IfOk-from_err _ _ c.from_residual.ensures.0
