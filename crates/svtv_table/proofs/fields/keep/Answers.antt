use Rattle.std.proofs.lemmas.Result.{IfOk-from_err}
use Rattle.svtv_table.proofs.fields.keep.Goals as goal

pub returns-in_err-row : goal.returns-in_err-row
returns-in_err-row c = IfOk-from_err _ _ c.from_residual.ensures.0
