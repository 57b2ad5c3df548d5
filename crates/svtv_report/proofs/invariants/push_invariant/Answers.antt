use Rattle.std.proofs.lemmas.Result.{IfOk-from_err}
use Rattle.svtv_report.proofs.invariants.push_invariant.Goals as goal

pub returns-in_err-extend_from_slice : goal.returns-in_err-extend_from_slice
returns-in_err-extend_from_slice c = IfOk-from_err _ _ c.from_residual.ensures.0
