use Rattle.std.proofs.Common.{◌≡◌, ◌≤◌, ◌+◌, ◌*◌, length, drop}
use Rattle.sv_blocks.proofs.Falling.{size, all_size, arms_size}
use Rattle.svex_arena.specs.Arenas.{Extends}
use Rattle.sv_stores.specs.Scenes.{IsState, AreNodes}
use Rattle.sv_blocks.specs.Overlays.{over}
use Rattle.sv_blocks.specs.Running.{RanArms}
use Rattle.sv_blocks.proofs.Running.{RanSome}
use Rattle.sv_blocks.proofs.run.+run.Given as goal

abbrev pub invariant-run_actions-actions : goal.invariant-run_actions-actions
invariant-run_actions-actions l = record {
  stays : Extends l.fn.arena l.arena;
  state : IsState l.scene l.arena l.state;
  kept : over l.kept l.state.nodes ≡ over l.fn.kept l.fn.state.nodes;
  made : RanSome l.scene l.fn.arena l.arena l.fn.state.nodes l.state.nodes l.actions l.action-index;
}

abbrev pub invariant-run_arms-arms : goal.invariant-run_arms-arms
invariant-run_arms-arms l = record {
  stays : Extends l.fn.arena l.arena;
  within : l.at ≤ length l.arms;
  state : IsState l.scene l.arena l.state;
  same : l.state.nodes ≡ l.fn.state.nodes;
  rest : AreNodes l.scene l.arena (over l.rest l.fn.state.nodes);
  made : RanArms l.scene l.fn.arena l.arena l.case (drop l.at l.arms) l.fn.state.nodes (over l.fn.rest l.fn.state.nodes) (over l.rest l.fn.state.nodes);
}

abbrev pub decreases-run_arms-arms : goal.decreases-run_arms-arms
decreases-run_arms-arms l = l.at

-- An action, a list of actions and a list of arms are measured by four times their size, and what stands between two of these by one or two
-- more.
abbrev pub decreases-run_action : goal.decreases-run_action
decreases-run_action l = 4 * size l.action.now

abbrev pub decreases-run_choice : goal.decreases-run_choice
decreases-run_choice l = 4 * (all_size l.a.now + all_size l.b.now) + 2

abbrev pub decreases-run_apart : goal.decreases-run_apart
decreases-run_apart l = 4 * all_size l.actions.now + 1

abbrev pub decreases-run_actions : goal.decreases-run_actions
decreases-run_actions l = 4 * all_size l.actions.now

abbrev pub decreases-run_arms : goal.decreases-run_arms
decreases-run_arms l = 4 * arms_size l.arms.now

abbrev pub decreases-run_arm : goal.decreases-run_arm
decreases-run_arm l = 4 * all_size l.arm.now.body + 2
