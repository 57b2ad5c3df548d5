use Rattle.std.proofs.lemmas.Result.{IfOk-from_err}
use Rattle.std.proofs.Common.{refl}
use Rattle.sv_blocks.proofs.Parting.{front_room, front_some}
use Rattle.sv_blocks.proofs.parts.above_front.Goals as goal

pub beside-requires-clause-most : goal.beside-requires-clause-most
beside-requires-clause-most c = front_room _ _ _ _ _ c.in_ok-low.ensures.stays c.requires.high c.in_ok-low.ensures.ok.width c.requires.most

pub returns-clause-ok : goal.returns-clause-ok
returns-clause-ok c = front_some _ _ _ _ _ _ _ _ _ c.in_ok-low.ensures.stays c.requires.high c.in_ok-low.ensures.ok refl c.in_ok-node.ensures.ok

pub returns-in_err-low-clause-ok : goal.returns-in_err-low-clause-ok
returns-in_err-low-clause-ok c = IfOk-from_err _ _ c.from_residual.ensures.0

pub returns-in_err-node-clause-ok : goal.returns-in_err-node-clause-ok
returns-in_err-node-clause-ok c = IfOk-from_err _ _ c.from_residual-in_err-node.ensures.0
