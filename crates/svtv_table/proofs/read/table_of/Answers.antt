use Rattle.std.proofs.lemmas.Result.{IfOk-from_err}
use Rattle.svtv_table.proofs.read.table_of.Goals as goal

pub returns-in_err-count-clause-fine : goal.returns-in_err-count-clause-fine
returns-in_err-count-clause-fine c = IfOk-from_err _ _ c.from_residual.ensures.0

pub returns-in_err-count-clause-table : goal.returns-in_err-count-clause-table
returns-in_err-count-clause-table c = IfOk-from_err _ _ c.from_residual.ensures.0

pub returns-in_err-rows-clause-fine : goal.returns-in_err-rows-clause-fine
returns-in_err-rows-clause-fine c = IfOk-from_err _ _ c.from_residual-in_err-rows.ensures.0

pub returns-in_err-rows-clause-table : goal.returns-in_err-rows-clause-table
returns-in_err-rows-clause-table c = IfOk-from_err _ _ c.from_residual-in_err-rows.ensures.0
