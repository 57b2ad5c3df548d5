use Rattle.std.proofs.lemmas.Result.{IfOk-from_err}
use Rattle.sv_lower.proofs.Sizing.{fitted_cut, fitted_kept}
use Rattle.sv_lower.proofs.sizes.fitted.Goals as goal

pub returns-in_ok-node-clause-ok : goal.returns-in_ok-node-clause-ok
returns-in_ok-node-clause-ok c = fitted_cut _ _ _ _ _ _ _ c.len.ensures.arena c.requires.a c.width.ensures.is c.if-width.true c.in_ok-node.ensures.ok

pub returns-in_ok-node-2-clause-ok : goal.returns-in_ok-node-2-clause-ok
returns-in_ok-node-2-clause-ok c = fitted_kept _ _ _ _ _ _ _ c.len.ensures.arena c.requires.a c.width.ensures.is c.if-width.false c.in_ok-node-2.ensures.ok

pub returns-in_err-node-2-clause-ok : goal.returns-in_err-node-2-clause-ok
returns-in_err-node-2-clause-ok c = IfOk-from_err _ _ c.from_residual-in_err-node-2.ensures.0

pub returns-in_err-node-clause-ok : goal.returns-in_err-node-clause-ok
returns-in_err-node-clause-ok c = IfOk-from_err _ _ c.from_residual.ensures.0
