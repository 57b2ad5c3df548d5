use Rattle.std.proofs.lemmas.Result.{IfOk-from_err}
use Rattle.sv_stores.proofs.Yielding.{typed_own}
use Rattle.sv_stores.proofs.look.truth.Goals as goal

pub lowered-requires-clause-most : goal.lowered-requires-clause-most
lowered-requires-clause-most c = typed_own _ c.requires.sound

pub returns-in_err-node-clause-ok : goal.returns-in_err-node-clause-ok
returns-in_err-node-clause-ok c = IfOk-from_err _ _ c.from_residual.ensures.0

pub returns-in_err-truth-clause-ok : goal.returns-in_err-truth-clause-ok
returns-in_err-truth-clause-ok c = IfOk-from_err _ _ c.from_residual-in_err-truth.ensures.0
