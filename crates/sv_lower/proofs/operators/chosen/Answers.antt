use Rattle.std.proofs.lemmas.Result.{IfOk-from_err}
use Rattle.fourvec.specs.Bits.{truth_of}
use Rattle.sv_lower.proofs.Making.{from_choice}
use Rattle.sv_lower.proofs.operators.chosen.Goals as goal

pub returns-clause-ok : goal.returns-clause-ok
returns-clause-ok c =
    from_choice _ _ _ truth_of _ _ _ _ _ _ c.unary.ensures.stays c.requires.a c.requires.b c.in_ok-c.ensures.ok c.in_ok-node.ensures.ok

pub returns-in_err-c-clause-ok : goal.returns-in_err-c-clause-ok
returns-in_err-c-clause-ok c = IfOk-from_err _ _ c.from_residual.ensures.0

pub returns-in_err-node-clause-ok : goal.returns-in_err-node-clause-ok
returns-in_err-node-clause-ok c = IfOk-from_err _ _ c.from_residual-in_err-node.ensures.0
