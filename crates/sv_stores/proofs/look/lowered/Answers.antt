use Rattle.std.proofs.lemmas.Result.{IfOk-from_err}
use Rattle.std.proofs.Common.{sym, ap, ◌∙◌}
use Rattle.sv_stores.specs.declared.scene.Manner.TheVariants.{Clocked}
use Rattle.sv_stores.proofs.Looking.{clocked_yields}
use Rattle.sv_stores.proofs.look.lowered.Goals as goal

pub returns-in_ok-node-in-Clocked-clause-ok : goal.returns-in_ok-node-in-Clocked-clause-ok
returns-in_ok-node-in-Clocked-clause-ok c =
    clocked_yields _ _ _ _ c.as_slice.result c.args.typed.now _ _ _ (c.in-Clocked.is ∙ sym (ap Clocked c.as_slice.ensures)) c.in_ok-node-in-Clocked.ensures.within c.in_ok-node-in-Clocked.ensures.width c.in_ok-node-in-Clocked.ensures.value c.in_ok-node-in-Clocked.ensures.mentions

pub returns-in_err-node-in-Clocked-clause-ok : goal.returns-in_err-node-in-Clocked-clause-ok
returns-in_err-node-in-Clocked-clause-ok c = IfOk-from_err _ _ c.from_residual.ensures.0
