use Rattle.std.proofs.lemmas.Result.{IfOk-from_err}
use Rattle.sv_lower.proofs.Pieces.{window_none, window_some}
use Rattle.sv_lower.proofs.parts.windowed.Goals as goal

pub returns-then-span-eq0-clause-ok : goal.returns-then-span-eq0-clause-ok
returns-then-span-eq0-clause-ok c =
    let s = c.span_of-span.ensures in
    window_none _ _ _ _ _ _ _ _ _ _ _ c.len.ensures.arena c.requires.a c.width.ensures.is s c.if-span-eq0.true c.in_ok-node.ensures.ok

pub returns-clause-ok : goal.returns-clause-ok
returns-clause-ok c =
    let s = c.span_of-span.ensures in
    window_some _ _ _ _ _ _ _ _ _ _ _ _ _ _ _ c.len.ensures.arena c.requires.a c.width.ensures.is s c.in_ok-part.ensures.ok c.in_ok-part-2.ensures.ok c.in_ok-node-2.ensures.ok

pub returns-in_err-node-2-clause-ok : goal.returns-in_err-node-2-clause-ok
returns-in_err-node-2-clause-ok c = IfOk-from_err _ _ c.from_residual-in_err-node-2.ensures.0

pub returns-in_err-node-clause-ok : goal.returns-in_err-node-clause-ok
returns-in_err-node-clause-ok c = IfOk-from_err _ _ c.from_residual.ensures.0

pub returns-in_err-part-2-clause-ok : goal.returns-in_err-part-2-clause-ok
returns-in_err-part-2-clause-ok c = IfOk-from_err _ _ c.from_residual-in_err-part-2.ensures.0

pub returns-in_err-part-clause-ok : goal.returns-in_err-part-clause-ok
returns-in_err-part-clause-ok c = IfOk-from_err _ _ c.from_residual-in_err-part.ensures.0
