use Rattle.std.proofs.lemmas.Result.{IfOk-from_err}
use Rattle.svtv_table.proofs.names.add_cells.Goals as goal

pub returns-in_err-add_cell : goal.returns-in_err-add_cell
returns-in_err-add_cell c = IfOk-from_err _ _ c.from_residual.ensures.0
