use Rattle.std.proofs.lemmas.Result.{IfOk-from_err}
use Rattle.sv_preproc.proofs.stepping.keep.Goals as goal

pub returns-in_err-put_at-clause-kept : goal.returns-in_err-put_at-clause-kept
returns-in_err-put_at-clause-kept c = IfOk-from_err _ _ c.from_residual.ensures.0
