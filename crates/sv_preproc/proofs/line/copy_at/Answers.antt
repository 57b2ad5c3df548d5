use Rattle.std.proofs.lemmas.Result.{IfOk-from_err}
use Rattle.sv_preproc.proofs.line.copy_at.Goals as goal

pub returns-in_err-copy : goal.returns-in_err-copy
returns-in_err-copy c = IfOk-from_err _ _ c.from_residual.ensures.0
