use Rattle.std.proofs.lemmas.Result.{IfOk-from_err}
use Rattle.svtv_table.proofs.binding.bind_in.Goals as goal

pub returns-in_err-driven-clause-fine : goal.returns-in_err-driven-clause-fine
returns-in_err-driven-clause-fine c = IfOk-from_err _ _ c.from_residual.ensures.0

pub returns-in_err-driven-clause-marks : goal.returns-in_err-driven-clause-marks
returns-in_err-driven-clause-marks c = IfOk-from_err _ _ c.from_residual.ensures.0

pub returns-in_err-driven-clause-rows : goal.returns-in_err-driven-clause-rows
returns-in_err-driven-clause-rows c = IfOk-from_err _ _ c.from_residual.ensures.0

pub returns-in_err-put-clause-fine : goal.returns-in_err-put-clause-fine
returns-in_err-put-clause-fine c = IfOk-from_err _ _ c.from_residual-in_err-put.ensures.0

pub returns-in_err-put-clause-marks : goal.returns-in_err-put-clause-marks
returns-in_err-put-clause-marks c = IfOk-from_err _ _ c.from_residual-in_err-put.ensures.0

pub returns-in_err-put-clause-rows : goal.returns-in_err-put-clause-rows
returns-in_err-put-clause-rows c = IfOk-from_err _ _ c.from_residual-in_err-put.ensures.0
