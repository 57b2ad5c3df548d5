use Rattle.std.proofs.lemmas.Result.{IfOk-from_err}
use Rattle.svtv_table.proofs.names.wires_of.Goals as goal

pub returns-in_err-index : goal.returns-in_err-index
returns-in_err-index c = IfOk-from_err _ _ c.from_residual.ensures.0
