use Rattle.std.proofs.lemmas.Result.{IfOk-from_err}
use Rattle.svtv_table.proofs.binding.bind_over.Goals as goal

pub returns-in_err-set-clause-fine : goal.returns-in_err-set-clause-fine
returns-in_err-set-clause-fine c = IfOk-from_err _ _ c.from_residual.ensures.0

pub returns-in_err-set-clause-marks : goal.returns-in_err-set-clause-marks
returns-in_err-set-clause-marks c = IfOk-from_err _ _ c.from_residual.ensures.0

pub returns-in_err-set-clause-rows : goal.returns-in_err-set-clause-rows
returns-in_err-set-clause-rows c = IfOk-from_err _ _ c.from_residual.ensures.0

pub returns-in_err-put-clause-fine : goal.returns-in_err-put-clause-fine
returns-in_err-put-clause-fine c = IfOk-from_err _ _ c.from_residual-in_err-put.ensures.0

pub returns-in_err-put-clause-marks : goal.returns-in_err-put-clause-marks
returns-in_err-put-clause-marks c = IfOk-from_err _ _ c.from_residual-in_err-put.ensures.0

pub returns-in_err-put-clause-rows : goal.returns-in_err-put-clause-rows
returns-in_err-put-clause-rows c = IfOk-from_err _ _ c.from_residual-in_err-put.ensures.0
