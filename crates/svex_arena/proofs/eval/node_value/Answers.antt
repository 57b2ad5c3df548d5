use Rattle.std.proofs.lemmas.Result.{IfOk-from_err}
use Rattle.svex_arena.proofs.eval.node_value.Goals as goal

pub returns-in_err-done : goal.returns-in_err-done
returns-in_err-done c = IfOk-from_err _ _ c.from_residual-in_err-done.ensures.0

pub returns-in_err-marks : goal.returns-in_err-marks
returns-in_err-marks c = IfOk-from_err _ _ c.from_residual.ensures.0
