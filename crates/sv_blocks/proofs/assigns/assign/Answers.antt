use Rattle.std.proofs.lemmas.Result.{IfOk-from_err}
use Rattle.sv_stores.proofs.Stores.{state_kept}
use Rattle.sv_blocks.proofs.Assigning.{assigned_all}
use Rattle.sv_blocks.proofs.Running.{on_ok}
use Rattle.sv_blocks.proofs.assigns.assign.Goals as goal

pub write_targets-requires-clause-state : goal.write_targets-requires-clause-state
write_targets-requires-clause-state c = state_kept _ _ _ _ c.in_ok-node.ensures.stays c.requires.state

pub returns-clause-ran : goal.returns-clause-ran
returns-clause-ran c =
    on_ok _ _ _ (λ k. assigned_all _ _ _ _ _ _ _ c.args.value.now _ _ c.requires.scene c.requires.state.nodes c.in_ok-node.ensures.stays c.total.ensures c.in_ok-node.ensures.ok k) c.write_targets.ensures.wrote

pub returns-in_err-node-clause-ran : goal.returns-in_err-node-clause-ran
returns-in_err-node-clause-ran c = IfOk-from_err _ _ c.from_residual.ensures.0

pub returns-in_err-node-clause-state : goal.returns-in_err-node-clause-state
returns-in_err-node-clause-state c = IfOk-from_err _ _ c.from_residual.ensures.0

pub returns-in_err-node-clause-kept : goal.returns-in_err-node-clause-kept
returns-in_err-node-clause-kept c = IfOk-from_err _ _ c.from_residual.ensures.0
