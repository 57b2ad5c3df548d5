use Rattle.std.proofs.lemmas.Result.{IfOk-from_err}
use Rattle.svtv_table.proofs.read.row_of.Goals as goal

pub returns-in_err-cells-clause-fine : goal.returns-in_err-cells-clause-fine
returns-in_err-cells-clause-fine c = IfOk-from_err _ _ c.from_residual.ensures.0

pub returns-in_err-cells-clause-row : goal.returns-in_err-cells-clause-row
returns-in_err-cells-clause-row c = IfOk-from_err _ _ c.from_residual.ensures.0

pub returns-in_err-path-clause-fine : goal.returns-in_err-path-clause-fine
returns-in_err-path-clause-fine c = IfOk-from_err _ _ c.from_residual-in_err-path.ensures.0

pub returns-in_err-path-clause-row : goal.returns-in_err-path-clause-row
returns-in_err-path-clause-row c = IfOk-from_err _ _ c.from_residual-in_err-path.ensures.0
