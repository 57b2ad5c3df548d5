use Rattle.std.proofs.lemmas.Result.{IfOk-from_err}
use Rattle.sv_typed.proofs.tree.Typed.fitted.Goals as goal

pub returns-in_err-new-clause-layout : goal.returns-in_err-new-clause-layout
returns-in_err-new-clause-layout c = IfOk-from_err _ _ c.from_residual.ensures.0

pub returns-in_err-new-clause-size : goal.returns-in_err-new-clause-size
returns-in_err-new-clause-size c = IfOk-from_err _ _ c.from_residual.ensures.0

pub returns-in_err-new-clause-sound : goal.returns-in_err-new-clause-sound
returns-in_err-new-clause-sound c = IfOk-from_err _ _ c.from_residual.ensures.0
