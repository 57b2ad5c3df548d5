use Rattle.std.proofs.lemmas.Result.{IfOk-from_err, on_ok_weaker}
use Rattle.svtv_report.proofs.Sayings.{three_pushed}
use Rattle.svtv_report.proofs.invariants.push_base_failure.Goals as goal

pub returns-in_err-extend_from_slice : goal.returns-in_err-extend_from_slice
returns-in_err-extend_from_slice c = IfOk-from_err _ _ c.from_residual.ensures.0

pub returns-in_err-push_vars : goal.returns-in_err-push_vars
returns-in_err-push_vars c = IfOk-from_err _ _ c.from_residual-in_err-push_vars.ensures.0

pub returns : goal.returns
returns c = on_ok_weaker c.push_samples.result (three_pushed _ _ _ _ _ _ _ c.in_ok-extend_from_slice.ensures.items c.in_ok-push_vars.ensures) c.push_samples.ensures
