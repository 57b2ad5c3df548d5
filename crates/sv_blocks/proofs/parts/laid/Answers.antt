use Rattle.std.proofs.lemmas.Result.{IfOk-from_err}
use Rattle.std.proofs.Common.{refl, arith}
use Rattle.svex_arena.proofs.Keeping.{extends_on}
use Rattle.svex_arena.proofs.Steps.{width-extends}
use Rattle.sv_blocks.proofs.Parting.{laid_none, laid_some}
use Rattle.sv_blocks.proofs.parts.laid.Goals as goal

pub returns-then-lay-eq0-clause-ok : goal.returns-then-lay-eq0-clause-ok
returns-then-lay-eq0-clause-ok c = laid_none _ _ _ _ _ _ _ _ _ c.len.ensures.arena c.requires.of c.requires.part c.width.ensures.is c.width-2.ensures.is c.lay_of-lay.ensures c.if-lay-eq0.true

pub above_front-requires-clause-within : goal.above_front-requires-clause-within
above_front-requires-clause-within c =
    let a = width-extends _ _ _ c.in_ok-middle.ensures.stays c.requires.of in let b = c.width.ensures.is in let d = c.lay_of-lay.ensures.within in omega arith

pub below_rest-requires-clause-within : goal.below_rest-requires-clause-within
below_rest-requires-clause-within c =
    let a = width-extends _ _ _ (extends_on _ _ _ c.in_ok-middle.ensures.stays c.in_ok-low.ensures.stays) c.requires.of in let b = c.width.ensures.is in let d = c.lay_of-lay.ensures.within in omega arith

pub returns-clause-ok : goal.returns-clause-ok
returns-clause-ok c =
    laid_some _ _ _ _ _ _ _ _ _ _ _ _ _ _ _ _ _ c.len.ensures.arena c.requires.of c.requires.part c.width.ensures.is c.width-2.ensures.is c.lay_of-lay.ensures c.in_ok-middle.ensures.stays c.in_ok-low.ensures.stays
    c.in_ok-middle.ensures.ok c.in_ok-low.ensures.ok c.in_ok-node.ensures.ok refl

pub returns-in_err-low-clause-ok : goal.returns-in_err-low-clause-ok
returns-in_err-low-clause-ok c = IfOk-from_err _ _ c.from_residual-in_err-low.ensures.0

pub returns-in_err-middle-clause-ok : goal.returns-in_err-middle-clause-ok
returns-in_err-middle-clause-ok c = IfOk-from_err _ _ c.from_residual.ensures.0

pub returns-in_err-node-clause-ok : goal.returns-in_err-node-clause-ok
returns-in_err-node-clause-ok c = IfOk-from_err _ _ c.from_residual-in_err-node.ensures.0
