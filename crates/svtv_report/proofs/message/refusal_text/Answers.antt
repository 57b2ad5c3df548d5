use Rattle.std.proofs.lemmas.Result.{IfOk-from_err}
use Rattle.svtv_report.proofs.message.refusal_text.Goals as goal

pub returns-in_err-push_place : goal.returns-in_err-push_place
returns-in_err-push_place c = IfOk-from_err _ _ c.from_residual.ensures.0

pub returns-in_err-push_refusal : goal.returns-in_err-push_refusal
returns-in_err-push_refusal c = IfOk-from_err _ _ c.from_residual-in_err-push_refusal.ensures.0
