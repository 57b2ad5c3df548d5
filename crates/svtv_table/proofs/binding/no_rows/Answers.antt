use Rattle.std.proofs.lemmas.Result.{IfOk-from_err}
use Rattle.svtv_table.proofs.binding.no_rows.Goals as goal

pub returns-in_err-marks : goal.returns-in_err-marks
returns-in_err-marks g c = IfOk-from_err _ _ c.from_residual.ensures.0
