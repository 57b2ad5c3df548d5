use Rattle.std.proofs.lemmas.Result.{IfOk-from_err}
use Rattle.sv_lower.proofs.Pieces.{sliced_all, sliced_part}
use Rattle.sv_lower.proofs.parts.sliced.Goals as goal

pub returns-then-width-clause-ok : goal.returns-then-width-clause-ok
returns-then-width-clause-ok c = sliced_all _ _ _ _ _ c.len.ensures.arena c.requires.a c.width.ensures.is c.if-width.true c.requires.within

pub returns-in_ok-node-clause-ok : goal.returns-in_ok-node-clause-ok
returns-in_ok-node-clause-ok c = sliced_part _ _ _ _ _ _ c.in_ok-node.ensures.ok

pub returns-in_err-node-clause-ok : goal.returns-in_err-node-clause-ok
returns-in_err-node-clause-ok c = IfOk-from_err _ _ c.from_residual.ensures.0
