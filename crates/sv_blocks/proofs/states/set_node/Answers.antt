use Rattle.std.proofs.lemmas.Result.{IfOk-from_err}
use Rattle.std.proofs.Common.{sym, ◌∙◌}
use Rattle.svex_arena.proofs.Keeping.{extends_self}
use Rattle.sv_stores.proofs.Stores.{put_seen, put_unseen}
use Rattle.sv_blocks.proofs.states.set_node.Goals as goal

pub returns-in_ok-seen-clause-state : goal.returns-in_ok-seen-clause-state
returns-in_ok-seen-clause-state c =
    put_seen _ _ _ _ _ _ _ _ _ (sym c.sees_store.ensures ∙ c.if-sees_store.true) c.requires.state c.in_ok-seen.ensures.stays c.requires.at c.requires.node c.requires.width c.in_ok-seen.ensures.ok c.set.ensures c.set-then-sees_store.ensures

pub returns-else-sees_store-clause-state : goal.returns-else-sees_store-clause-state
returns-else-sees_store-clause-state c =
    put_unseen _ _ _ _ _ _ _ (sym c.sees_store.ensures ∙ c.if-sees_store.false) c.requires.state (extends_self _) c.requires.at c.requires.node c.requires.width c.set-else-sees_store.ensures

pub returns-in_err-seen-clause-nodes : goal.returns-in_err-seen-clause-nodes
returns-in_err-seen-clause-nodes c = IfOk-from_err _ _ c.from_residual.ensures.0

pub returns-in_err-seen-clause-state : goal.returns-in_err-seen-clause-state
returns-in_err-seen-clause-state c = IfOk-from_err _ _ c.from_residual.ensures.0
