use Rattle.std.proofs.lemmas.Result.{IfOk-from_err}
use Rattle.sv_preproc.proofs.stepping.open.Goals as goal

pub returns-in_err-inside-clause-begun : goal.returns-in_err-inside-clause-begun
returns-in_err-inside-clause-begun c = IfOk-from_err _ _ c.from_residual.ensures.0

pub returns-in_err-inside-clause-inside : goal.returns-in_err-inside-clause-inside
returns-in_err-inside-clause-inside c = IfOk-from_err _ _ c.from_residual.ensures.0
