use Rattle.std.proofs.lemmas.Result.{IfOk-from_err}
use Rattle.std.proofs.Common.{refl, arith}
use Rattle.sv_blocks.proofs.Parting.{rest_none, rest_some, rest_room}
use Rattle.sv_blocks.proofs.parts.below_rest.Goals as goal

pub returns-then-from-size-clause-ok : goal.returns-then-from-size-clause-ok
returns-then-from-size-clause-ok c = rest_none _ _ _ _ _ c.len.ensures.arena c.requires.of c.requires.low c.requires.wide c.width-size.ensures.is c.if-from-size.true

pub beside-requires-clause-most : goal.beside-requires-clause-most
beside-requires-clause-most c = rest_room _ _ _ _ _ _ _ c.in_ok-high.ensures.stays c.requires.low c.in_ok-high.ensures.ok.width c.requires.wide c.requires.within c.width-size.ensures.is c.width-size.ensures.most

pub returns-clause-ok : goal.returns-clause-ok
returns-clause-ok c =
    rest_some _ _ _ _ _ _ _ _ _ _ c.len.ensures.arena c.requires.of c.requires.low c.requires.wide (let a = c.requires.within in let b = c.width-size.ensures.is in omega arith) c.width-size.ensures.is c.in_ok-high.ensures.stays c.in_ok-high.ensures.ok refl c.in_ok-node.ensures.ok

pub returns-in_err-high-clause-ok : goal.returns-in_err-high-clause-ok
returns-in_err-high-clause-ok c = IfOk-from_err _ _ c.from_residual.ensures.0

pub returns-in_err-node-clause-ok : goal.returns-in_err-node-clause-ok
returns-in_err-node-clause-ok c = IfOk-from_err _ _ c.from_residual-in_err-node.ensures.0
