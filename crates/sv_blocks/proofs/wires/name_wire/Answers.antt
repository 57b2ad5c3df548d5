use Rattle.std.proofs.lemmas.Result.{IfOk-from_err}
use Rattle.sv_blocks.proofs.wires.name_wire.Goals as goal

pub returns-in_err-push-clause-is : goal.returns-in_err-push-clause-is
returns-in_err-push-clause-is c = IfOk-from_err _ _ c.from_residual.ensures.0
