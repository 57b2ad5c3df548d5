use Rattle.std.proofs.lemmas.Result.{IfOk-from_err}
use Rattle.sv_preproc.proofs.branch.begin.Goals as goal

pub returns-in_err-push-clause-begun : goal.returns-in_err-push-clause-begun
returns-in_err-push-clause-begun c = IfOk-from_err _ _ c.from_residual.ensures.0

pub returns-in_err-push-clause-inside : goal.returns-in_err-push-clause-inside
returns-in_err-push-clause-inside c = IfOk-from_err _ _ c.from_residual.ensures.0
