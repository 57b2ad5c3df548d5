use Rattle.std.proofs.lemmas.Result.{IfOk-from_err}
use Rattle.sv_typed.proofs.make.both_boxed.Goals as goal

pub returns-in_err-b : goal.returns-in_err-b
returns-in_err-b c = IfOk-from_err _ _ c.from_residual.ensures.0
