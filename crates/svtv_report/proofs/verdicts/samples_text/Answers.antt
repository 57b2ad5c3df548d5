use Rattle.std.proofs.lemmas.Result.{IfOk-from_err}
use Rattle.svtv_report.proofs.verdicts.samples_text.Goals as goal

pub returns-in_err-push_samples : goal.returns-in_err-push_samples
returns-in_err-push_samples c = IfOk-from_err _ _ c.from_residual.ensures.0
