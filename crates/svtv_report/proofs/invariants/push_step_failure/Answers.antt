use Rattle.std.proofs.lemmas.Result.{IfOk-from_err, on_ok_weaker}
use Rattle.svtv_report.proofs.Sayings.{four_pushed}
use Rattle.svtv_report.proofs.invariants.push_step_failure.Goals as goal

pub returns-in_err-extend_from_slice : goal.returns-in_err-extend_from_slice
returns-in_err-extend_from_slice c = IfOk-from_err _ _ c.from_residual.ensures.0

pub returns-in_err-push_vars : goal.returns-in_err-push_vars
returns-in_err-push_vars c = IfOk-from_err _ _ c.from_residual-in_err-push_vars.ensures.0

pub returns-in_err-push_samples : goal.returns-in_err-push_samples
returns-in_err-push_samples c = IfOk-from_err _ _ c.from_residual-in_err-push_samples.ensures.0

pub returns : goal.returns
returns c = on_ok_weaker c.push_samples-2.result (four_pushed _ _ _ _ _ _ _ _ _ c.in_ok-extend_from_slice.ensures.items c.in_ok-push_vars.ensures c.in_ok-push_samples.ensures) c.push_samples-2.ensures
