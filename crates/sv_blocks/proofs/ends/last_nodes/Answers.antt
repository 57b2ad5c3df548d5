use Rattle.std.proofs.lemmas.Result.{IfOk-from_err}
use Rattle.std.proofs.Common.{sym, ◌∙◌, subst}
use Rattle.svex_arena.proofs.Keeping.{extends_on}
use Rattle.sv_stores.specs.Scenes.{AreNodes, Starts}
use Rattle.sv_stores.proofs.Stores.{nodes_kept}
use Rattle.sv_blocks.proofs.Ending.{ended_ok}
use Rattle.sv_blocks.proofs.ends.last_nodes.Goals as goal

pub ended-requires-clause-start : goal.ended-requires-clause-start
ended-requires-clause-start c =
    subst (λ xs. AreNodes c.args.scene.now c.run_actions.new.arena xs) (sym c.as_slice-2.ensures)
    (nodes_kept _ _ _ _ c.in_ok-start.ensures.ok.nodes_are (extends_on _ _ _ c.in_ok-state.ensures.stays c.in_ok-run_actions.ensures.stays))

pub first_state-requires-clause-nodes : goal.first_state-requires-clause-nodes
first_state-requires-clause-nodes c =
    subst (λ xs. Starts c.args.scene.now c.start_nodes.new.arena xs) (sym (c.from_vec-nodes.ensures ∙ c.in_ok-to_vec.ensures.items_if_clones_equal (λ x y h. h) ∙ c.as_slice.ensures)) c.in_ok-start.ensures.ok

pub returns-clause-ok : goal.returns-clause-ok
returns-clause-ok c =
    ended_ok c.ended.result c.args.scene.now c.start_nodes.new.arena c.first_state.new.arena c.run_actions.new.arena c.ended.new.arena c.args.actions.now c.in_ok-start.start c.as_slice-2.result.now c.in_ok-state.state.nodes c.run_actions.new.state.nodes c.requires.scene
    c.in_ok-start.ensures.ok (c.in_ok-state.ensures.nodes ∙ c.from_vec-nodes.ensures ∙ c.in_ok-to_vec.ensures.items_if_clones_equal (λ x y h. h) ∙ c.as_slice.ensures) c.in_ok-state.ensures.stays c.in_ok-run_actions.ensures.stays c.in_ok-run_actions.ensures.ran c.as_slice-2.ensures c.ended.ensures.ok

pub returns-in_err-start-clause-stays : goal.returns-in_err-start-clause-stays
returns-in_err-start-clause-stays c = c.in_err-start.ensures.stays

pub returns-in_err-start-clause-ok : goal.returns-in_err-start-clause-ok
returns-in_err-start-clause-ok c = IfOk-from_err _ _ c.from_residual.ensures.0

pub returns-in_err-to_vec-clause-stays : goal.returns-in_err-to_vec-clause-stays
returns-in_err-to_vec-clause-stays c = c.in_ok-start.ensures.stays

pub returns-in_err-to_vec-clause-ok : goal.returns-in_err-to_vec-clause-ok
returns-in_err-to_vec-clause-ok c = IfOk-from_err _ _ c.from_residual-in_err-to_vec.ensures.0

pub returns-in_err-state-clause-stays : goal.returns-in_err-state-clause-stays
returns-in_err-state-clause-stays c = extends_on _ _ _ c.in_ok-start.ensures.stays c.in_err-state.ensures.stays

pub returns-in_err-state-clause-ok : goal.returns-in_err-state-clause-ok
returns-in_err-state-clause-ok c = IfOk-from_err _ _ c.from_residual-in_err-state.ensures.0

pub returns-in_err-run_actions-clause-stays : goal.returns-in_err-run_actions-clause-stays
returns-in_err-run_actions-clause-stays c = extends_on _ _ _ (extends_on _ _ _ c.in_ok-start.ensures.stays c.in_ok-state.ensures.stays) c.in_err-run_actions.ensures.stays

pub returns-in_err-run_actions-clause-ok : goal.returns-in_err-run_actions-clause-ok
returns-in_err-run_actions-clause-ok c = IfOk-from_err _ _ c.from_residual-in_err-run_actions.ensures.0

pub returns-clause-stays : goal.returns-clause-stays
returns-clause-stays c = extends_on _ _ _ (extends_on _ _ _ (extends_on _ _ _ c.in_ok-start.ensures.stays c.in_ok-state.ensures.stays) c.in_ok-run_actions.ensures.stays) c.ended.ensures.stays
