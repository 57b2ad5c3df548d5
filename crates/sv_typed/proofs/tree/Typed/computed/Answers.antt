use Rattle.std.proofs.lemmas.Result.{IfOk-from_err}
use Rattle.sv_typed.proofs.tree.Typed.computed.Goals as goal

pub returns-in_err-a-clause-stands : goal.returns-in_err-a-clause-stands
returns-in_err-a-clause-stands c = IfOk-from_err _ _ c.from_residual.ensures.0

pub returns-in_err-a-clause-sound : goal.returns-in_err-a-clause-sound
returns-in_err-a-clause-sound c = IfOk-from_err _ _ c.from_residual.ensures.0
