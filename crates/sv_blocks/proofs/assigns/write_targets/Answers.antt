use Rattle.std.proofs.lemmas.Result.{IfOk-from_err}
use Rattle.std.proofs.Common.{refl, ◌∙◌}
use Rattle.svex_arena.proofs.Keeping.{extends_self, extends_on}
use Rattle.sv_lower.proofs.Lowered.{element}
use Rattle.sv_actions.specs.Doing.{TargetFits}
use Rattle.sv_stores.proofs.Stores.{state_kept}
use Rattle.sv_blocks.specs.Fitting.{TargetSits}
use Rattle.sv_blocks.proofs.Assigning.{wrote_none, wrote_more, wrote_end, left_on, part_room, some_bits}
use Rattle.sv_blocks.proofs.assigns.write_targets.Goals as goal

pub targets-init : goal.targets-init
targets-init c = record {
  stays = extends_self _;
  state = c.requires.state;
  kept = refl;
  left = c.width-left.ensures.is ∙ c.requires.wide;
  made = wrote_none _ _ _ _ _ _ c.len.ensures.arena c.requires.whole c.width-left.ensures.is;
}

pub overflow_sub-left : goal.overflow_sub-left
overflow_sub-left c = (left_on _ _ _ _ c.targets-test.true c.target-item.is c.targets.invariant.left).0

pub sliced-requires-clause-some : goal.sliced-requires-clause-some
sliced-requires-clause-some c = some_bits _ (element TargetFits c.args.targets.now c.targets.target-index c.target-item.result c.requires.targets c.targets-test.true c.target-item.is)

pub sliced-requires-clause-within : goal.sliced-requires-clause-within
sliced-requires-clause-within c = part_room _ _ _ _ _ _ _ c.targets.invariant.stays c.requires.whole c.requires.wide c.targets-test.true c.target-item.is c.targets.invariant.left

pub write_target-requires-clause-state : goal.write_target-requires-clause-state
write_target-requires-clause-state c = state_kept _ _ _ _ c.in_ok-part.ensures.stays c.targets.invariant.state

pub write_target-requires-clause-wide : goal.write_target-requires-clause-wide
write_target-requires-clause-wide c = c.in_ok-part.ensures.ok.width

pub targets-preserved : goal.targets-preserved
targets-preserved c =
    let i = c.targets.invariant in
    record {
      stays = extends_on _ _ _ (extends_on _ _ _ i.stays c.in_ok-part.ensures.stays) c.in_ok-write_target.ensures.stays;
      state = c.in_ok-write_target.ensures.state;
      kept = c.in_ok-write_target.ensures.kept ∙ i.kept;
      left = (left_on _ _ _ _ c.targets-test.true c.target-item.is i.left).1;
      made =
          wrote_more _ _ _ _ _ _ _ _ _ _ _ _ _ _ _ c.requires.scene c.targets-test.true c.target-item.is i.left refl c.requires.whole i.state.nodes i.stays c.in_ok-part.ensures.stays
          i.made c.in_ok-part.ensures.ok c.in_ok-write_target.ensures.wrote;
    }

pub returns-clause-wrote : goal.returns-clause-wrote
returns-clause-wrote c = wrote_end _ _ _ _ _ _ _ _ _ c.targets-test.false c.targets.invariant.made

pub write_target-requires-clause-sits : goal.write_target-requires-clause-sits
write_target-requires-clause-sits c = element (TargetSits c.args.scene.now) c.args.targets.now c.targets.target-index c.target-item.result c.requires.sits c.targets-test.true c.target-item.is

pub returns-in_err-part-clause-stays : goal.returns-in_err-part-clause-stays
returns-in_err-part-clause-stays c = extends_on _ _ _ c.targets.invariant.stays c.in_err-part.ensures.stays

pub returns-in_err-part-clause-state : goal.returns-in_err-part-clause-state
returns-in_err-part-clause-state c = IfOk-from_err _ _ c.from_residual.ensures.0

pub returns-in_err-part-clause-wrote : goal.returns-in_err-part-clause-wrote
returns-in_err-part-clause-wrote c = IfOk-from_err _ _ c.from_residual.ensures.0

pub returns-in_err-write_target-clause-stays : goal.returns-in_err-write_target-clause-stays
returns-in_err-write_target-clause-stays c = extends_on _ _ _ (extends_on _ _ _ c.targets.invariant.stays c.in_ok-part.ensures.stays) c.in_err-write_target.ensures.stays

pub returns-in_err-write_target-clause-state : goal.returns-in_err-write_target-clause-state
returns-in_err-write_target-clause-state c = IfOk-from_err _ _ c.from_residual-in_err-write_target.ensures.0

pub returns-in_err-write_target-clause-wrote : goal.returns-in_err-write_target-clause-wrote
returns-in_err-write_target-clause-wrote c = IfOk-from_err _ _ c.from_residual-in_err-write_target.ensures.0

pub returns-clause-stays : goal.returns-clause-stays
returns-clause-stays c = c.targets.invariant.stays

pub returns-clause-kept : goal.returns-clause-kept
returns-clause-kept c = c.targets.invariant.kept

pub returns-in_err-part-clause-kept : goal.returns-in_err-part-clause-kept
returns-in_err-part-clause-kept c = IfOk-from_err _ _ c.from_residual.ensures.0

pub returns-in_err-write_target-clause-kept : goal.returns-in_err-write_target-clause-kept
returns-in_err-write_target-clause-kept c = IfOk-from_err _ _ c.from_residual-in_err-write_target.ensures.0
