use Rattle.std.proofs.lemmas.Result.{IfOk-from_err}
use Rattle.svtv_report.proofs.verdicts.push_verdict.Goals as goal

pub returns-in_err-extend_from_slice : goal.returns-in_err-extend_from_slice
returns-in_err-extend_from_slice c = IfOk-from_err _ _ c.from_residual.ensures.0

pub returns-in_err-extend_from_slice-in-Failed : goal.returns-in_err-extend_from_slice-in-Failed
returns-in_err-extend_from_slice-in-Failed c = IfOk-from_err _ _ c.from_residual-in_err-extend_from_slice-in-Failed.ensures.0

pub returns-in_err-push_vars-in-Failed : goal.returns-in_err-push_vars-in-Failed
returns-in_err-push_vars-in-Failed c = IfOk-from_err _ _ c.from_residual-in_err-push_vars-in-Failed.ensures.0
