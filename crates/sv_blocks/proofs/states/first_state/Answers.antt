use Rattle.std.proofs.lemmas.Result.{IfOk-from_err}
use Rattle.sv_stores.proofs.Stores.{state_made}
use Rattle.sv_blocks.proofs.states.first_state.Goals as goal

pub returns-clause-state : goal.returns-clause-state
returns-clause-state c = state_made _ _ _ _ _ _ c.requires.nodes.nodes_are c.in_ok-seen.ensures.stays c.as_slice.ensures c.in_ok-seen.ensures.ok

pub returns-in_err-seen-clause-nodes : goal.returns-in_err-seen-clause-nodes
returns-in_err-seen-clause-nodes c = IfOk-from_err _ _ c.from_residual.ensures.0

pub returns-in_err-seen-clause-state : goal.returns-in_err-seen-clause-state
returns-in_err-seen-clause-state c = IfOk-from_err _ _ c.from_residual.ensures.0
