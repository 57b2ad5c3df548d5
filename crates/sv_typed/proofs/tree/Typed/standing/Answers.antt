use Rattle.std.proofs.lemmas.Result.{IfOk-from_err}
use Rattle.sv_typed.proofs.tree.Typed.standing.Goals as goal

pub returns-in_err-new-clause-sound : goal.returns-in_err-new-clause-sound
returns-in_err-new-clause-sound c = IfOk-from_err _ _ c.from_residual.ensures.0

pub returns-in_err-new-clause-stands : goal.returns-in_err-new-clause-stands
returns-in_err-new-clause-stands c = IfOk-from_err _ _ c.from_residual.ensures.0
