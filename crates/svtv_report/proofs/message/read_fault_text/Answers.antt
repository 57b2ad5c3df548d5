use Rattle.std.proofs.lemmas.Result.{IfOk-from_err}
use Rattle.svtv_report.proofs.message.read_fault_text.Goals as goal

pub returns-in_err-push_place : goal.returns-in_err-push_place
returns-in_err-push_place c = IfOk-from_err _ _ c.from_residual.ensures.0

pub returns-in_err-extend_from_slice : goal.returns-in_err-extend_from_slice
returns-in_err-extend_from_slice c = IfOk-from_err _ _ c.from_residual-in_err-extend_from_slice.ensures.0
