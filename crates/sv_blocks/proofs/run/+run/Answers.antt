use Rattle.std.proofs.lemmas.Result.{IfOk-from_err}
use Rattle.std.proofs.Common.{◌≡◌, ◌+◌, ◌-◌, ◌<◌, length, refl, sym, ap, ◌∙◌, subst, arith, All}
use Rattle.svex_arena.proofs.Keeping.{extends_self, extends_on}
use Rattle.svex_arena.proofs.Steps.{width-extends}
use Rattle.sv_lower.proofs.Lowered.{element}
use Rattle.sv_actions.specs.Doing.{Fits, LabelFits}
use Rattle.sv_stores.specs.Scenes.{AreNodes}
use Rattle.sv_blocks.specs.Running.{ArmFits}
use Rattle.sv_blocks.specs.Fitting.{LabelSits, Sits, ArmSits}
use Rattle.sv_stores.proofs.Stores.{nodes_kept, state_kept}
use Rattle.sv_blocks.proofs.Acting.{fits_assign_by, fits_choose_by, fits_match_by}
use Rattle.sv_blocks.proofs.Falling.{all_size, choose_less, choose_as, match_other, match_arms, falls_by, falls_to, falls_apart, falls_arm, action_less, arm_less}
use Rattle.sv_blocks.proofs.Labeling.{yields_over}
use Rattle.sv_blocks.proofs.Overlaying.{over_none}
use Rattle.sv_blocks.proofs.Running.{on_ok, kept_on, back_is, puts_are, nodes_over, ran_later, ran_sooner, ran_assign, ran_choose_apart, ran_match_apart, ran_arm_apart, arm_over, some_none, some_more, some_end, arms_none, arms_more, arms_end}
use Rattle.sv_blocks.proofs.Sitting.{sits_assign_by, sits_choose_by, sits_match_by}
use Rattle.sv_blocks.proofs.run.+run.Goals as goal

-- ---- an assignment

pub run_action-assign-requires-clause-value : goal.run_action-assign-requires-clause-value
run_action-assign-requires-clause-value t c = (fits_assign_by _ _ _ _ c.in-Assign.is c.as_slice.ensures c.requires.fits).value

pub run_action-assign-requires-clause-targets : goal.run_action-assign-requires-clause-targets
run_action-assign-requires-clause-targets t c = (fits_assign_by _ _ _ _ c.in-Assign.is c.as_slice.ensures c.requires.fits).targets

pub run_action-assign-requires-clause-some : goal.run_action-assign-requires-clause-some
run_action-assign-requires-clause-some t c = (fits_assign_by _ _ _ _ c.in-Assign.is c.as_slice.ensures c.requires.fits).some

pub run_action-assign-requires-clause-most : goal.run_action-assign-requires-clause-most
run_action-assign-requires-clause-most t c = (fits_assign_by _ _ _ _ c.in-Assign.is c.as_slice.ensures c.requires.fits).most

pub run_action-assign-requires-clause-narrow : goal.run_action-assign-requires-clause-narrow
run_action-assign-requires-clause-narrow t c = (sits_assign_by _ _ _ _ _ c.in-Assign.is c.as_slice.ensures c.requires.sits).value

pub run_action-assign-requires-clause-sits : goal.run_action-assign-requires-clause-sits
run_action-assign-requires-clause-sits t c = (sits_assign_by _ _ _ _ _ c.in-Assign.is c.as_slice.ensures c.requires.sits).targets

pub run_action-returns-in-Assign-clause-ran : goal.run_action-returns-in-Assign-clause-ran
run_action-returns-in-Assign-clause-ran t c = on_ok _ _ _ (λ k. ran_assign _ _ _ _ _ c.args.action.now _ _ _ c.in-Assign.is c.as_slice.ensures k) c.assign.ensures.ran

-- ---- a choice

pub run_action-run_choice-requires : goal.run_action-run_choice-requires
run_action-run_choice-requires t c =
    let fits = fits_choose_by _ _ _ _ _ _ c.in-Choose.is c.as_slice-in-Choose.ensures c.as_slice-in-Choose-2.ensures c.requires.fits in
    let sits = sits_choose_by _ _ _ _ _ _ _ c.in-Choose.is c.as_slice-in-Choose.ensures c.as_slice-in-Choose-2.ensures c.requires.sits in (
      falls_by _ _ t (choose_less _ _ _ _ _ _ c.in-Choose.is c.as_slice-in-Choose.ensures c.as_slice-in-Choose-2.ensures) c.decreases,
      (c.requires.scene, (c.requires.state, (fits.condition, (sits.condition, (fits.taken, (fits.other, (sits.taken, sits.other))))))),
    )

pub run_action-returns-in-Choose-clause-ran : goal.run_action-returns-in-Choose-clause-ran
run_action-returns-in-Choose-clause-ran t c = c.run_choice.ensures.ran c.args.action.now (choose_as _ _ _ _ _ _ c.in-Choose.is c.as_slice-in-Choose.ensures c.as_slice-in-Choose-2.ensures)

pub run_choice-run_apart-requires : goal.run_choice-run_apart-requires
run_choice-run_apart-requires t c =
    ((let d = c.decreases in omega arith), (c.requires.scene, (state_kept _ _ _ _ c.in_ok-truth.ensures.stays c.requires.state, (c.requires.left, c.requires.left_sits))))

pub run_choice-run_apart-requires-2 : goal.run_choice-run_apart-requires-2
run_choice-run_apart-requires-2 t c = ((let d = c.decreases in omega arith), (c.requires.scene, (c.in_ok-left.ensures.state, (c.requires.right, c.requires.right_sits))))

pub run_choice-either-requires-clause-truth : goal.run_choice-either-requires-clause-truth
run_choice-either-requires-clause-truth t c =
    let e = (extends_on _ _ _ c.in_ok-left.ensures.stays c.in_ok-right.ensures.stays).longer in let l = c.in_ok-truth.ensures.ok.within in omega arith

pub run_choice-either-requires-clause-one : goal.run_choice-either-requires-clause-one
run_choice-either-requires-clause-one t c =
    width-extends _ _ _ (extends_on _ _ _ c.in_ok-left.ensures.stays c.in_ok-right.ensures.stays) c.in_ok-truth.ensures.ok.within ∙ c.in_ok-truth.ensures.ok.width

pub run_choice-either-requires-clause-a : goal.run_choice-either-requires-clause-a
run_choice-either-requires-clause-a t c =
    nodes_over c.args.scene.now _ _ _ _ (sym (c.as_slice.ensures ∙ c.in_ok-right.ensures.nodes ∙ c.in_ok-left.ensures.nodes)) (nodes_kept _ _ _ _ c.in_ok-left.ensures.puts c.in_ok-right.ensures.stays)

pub run_choice-either-requires-clause-b : goal.run_choice-either-requires-clause-b
run_choice-either-requires-clause-b t c = nodes_over c.args.scene.now _ _ _ _ (sym (c.as_slice.ensures ∙ c.in_ok-right.ensures.nodes)) c.in_ok-right.ensures.puts

pub run_choice-put_all-requires-clause-state : goal.run_choice-put_all-requires-clause-state
run_choice-put_all-requires-clause-state t c = state_kept _ _ _ _ c.in_ok-both.ensures.stays c.in_ok-right.ensures.state

pub run_choice-put_all-requires-clause-puts : goal.run_choice-put_all-requires-clause-puts
run_choice-put_all-requires-clause-puts t c = nodes_over c.args.scene.now _ _ _ _ c.as_slice.ensures c.in_ok-both.ensures.ok.nodes_are

pub run_choice-returns-clause-stays : goal.run_choice-returns-clause-stays
run_choice-returns-clause-stays t c =
    extends_on _ _ _ (extends_on _ _ _ (extends_on _ _ _ (extends_on _ _ _ c.in_ok-truth.ensures.stays c.in_ok-left.ensures.stays) c.in_ok-right.ensures.stays) c.in_ok-both.ensures.stays) c.put_all.ensures.stays

pub run_choice-returns-clause-state : goal.run_choice-returns-clause-state
run_choice-returns-clause-state t c = c.put_all.ensures.state

pub run_choice-returns-clause-ran : goal.run_choice-returns-clause-ran
run_choice-returns-clause-ran t c = λ x e.
    on_ok _ _ _ (λ put.
    ran_choose_apart _ _ _ _ _ _ _ _ _ _ _ _ _ _ _ x _ _ _ _ c.requires.scene c.requires.state.nodes e c.in_ok-left.ensures.nodes c.in_ok-right.ensures.nodes c.as_slice.ensures put
    c.in_ok-truth.ensures.stays c.in_ok-left.ensures.stays c.in_ok-right.ensures.stays c.put_all.ensures.stays c.in_ok-left.ensures.puts
    c.in_ok-truth.ensures.ok c.in_ok-left.ensures.ran c.in_ok-right.ensures.ran c.in_ok-both.ensures.ok)
    c.put_all.ensures.nodes

pub run_choice-returns-clause-kept : goal.run_choice-returns-clause-kept
run_choice-returns-clause-kept t c = kept_on c.put_all.result _ _ _ _ _ (c.in_ok-right.ensures.nodes ∙ c.in_ok-left.ensures.nodes) c.put_all.ensures.kept

pub run_choice-returns-in_err-truth-clause-state : goal.run_choice-returns-in_err-truth-clause-state
run_choice-returns-in_err-truth-clause-state t c = IfOk-from_err _ _ c.from_residual.ensures.0

pub run_choice-returns-in_err-truth-clause-ran : goal.run_choice-returns-in_err-truth-clause-ran
run_choice-returns-in_err-truth-clause-ran t c = λ x e. IfOk-from_err _ _ c.from_residual.ensures.0

pub run_choice-returns-in_err-truth-clause-kept : goal.run_choice-returns-in_err-truth-clause-kept
run_choice-returns-in_err-truth-clause-kept t c = IfOk-from_err _ _ c.from_residual.ensures.0

pub run_choice-returns-in_err-left-clause-state : goal.run_choice-returns-in_err-left-clause-state
run_choice-returns-in_err-left-clause-state t c = IfOk-from_err _ _ c.from_residual-in_err-left.ensures.0

pub run_choice-returns-in_err-left-clause-ran : goal.run_choice-returns-in_err-left-clause-ran
run_choice-returns-in_err-left-clause-ran t c = λ x e. IfOk-from_err _ _ c.from_residual-in_err-left.ensures.0

pub run_choice-returns-in_err-left-clause-kept : goal.run_choice-returns-in_err-left-clause-kept
run_choice-returns-in_err-left-clause-kept t c = IfOk-from_err _ _ c.from_residual-in_err-left.ensures.0

pub run_choice-returns-in_err-right-clause-state : goal.run_choice-returns-in_err-right-clause-state
run_choice-returns-in_err-right-clause-state t c = IfOk-from_err _ _ c.from_residual-in_err-right.ensures.0

pub run_choice-returns-in_err-right-clause-ran : goal.run_choice-returns-in_err-right-clause-ran
run_choice-returns-in_err-right-clause-ran t c = λ x e. IfOk-from_err _ _ c.from_residual-in_err-right.ensures.0

pub run_choice-returns-in_err-right-clause-kept : goal.run_choice-returns-in_err-right-clause-kept
run_choice-returns-in_err-right-clause-kept t c = IfOk-from_err _ _ c.from_residual-in_err-right.ensures.0

pub run_choice-returns-in_err-both-clause-state : goal.run_choice-returns-in_err-both-clause-state
run_choice-returns-in_err-both-clause-state t c = IfOk-from_err _ _ c.from_residual-in_err-both.ensures.0

pub run_choice-returns-in_err-both-clause-ran : goal.run_choice-returns-in_err-both-clause-ran
run_choice-returns-in_err-both-clause-ran t c = λ x e. IfOk-from_err _ _ c.from_residual-in_err-both.ensures.0

pub run_choice-returns-in_err-both-clause-kept : goal.run_choice-returns-in_err-both-clause-kept
run_choice-returns-in_err-both-clause-kept t c = IfOk-from_err _ _ c.from_residual-in_err-both.ensures.0

pub run_choice-returns-in_err-left-clause-stays : goal.run_choice-returns-in_err-left-clause-stays
run_choice-returns-in_err-left-clause-stays t c = extends_on _ _ _ c.in_ok-truth.ensures.stays c.in_err-left.ensures.stays

pub run_choice-returns-in_err-right-clause-stays : goal.run_choice-returns-in_err-right-clause-stays
run_choice-returns-in_err-right-clause-stays t c = extends_on _ _ _ (extends_on _ _ _ c.in_ok-truth.ensures.stays c.in_ok-left.ensures.stays) c.in_err-right.ensures.stays

pub run_choice-returns-in_err-both-clause-stays : goal.run_choice-returns-in_err-both-clause-stays
run_choice-returns-in_err-both-clause-stays t c = extends_on _ _ _ (extends_on _ _ _ (extends_on _ _ _ c.in_ok-truth.ensures.stays c.in_ok-left.ensures.stays) c.in_ok-right.ensures.stays) c.in_err-both.ensures.stays

-- ---- actions apart

pub run_apart-run_actions-requires : goal.run_apart-run_actions-requires
run_apart-run_actions-requires t c = ((let d = c.decreases in omega arith), (c.requires.scene, (c.requires.state, (c.requires.fits, c.requires.sits))))

pub run_apart-put_all-requires-clause-puts : goal.run_apart-put_all-requires-clause-puts
run_apart-put_all-requires-clause-puts t c =
    subst (AreNodes c.args.scene.now c.run_actions.new.arena) (sym (c.in_ok-run_actions.ensures.kept ∙ over_none _ _ c.new-kept.ensures)) (nodes_kept _ _ _ _ c.requires.state.nodes c.in_ok-run_actions.ensures.stays)

pub run_apart-returns-clause-stays : goal.run_apart-returns-clause-stays
run_apart-returns-clause-stays t c = extends_on _ _ _ c.in_ok-run_actions.ensures.stays c.in_ok-put_all.ensures.stays

pub run_apart-returns-clause-state : goal.run_apart-returns-clause-state
run_apart-returns-clause-state t c = c.in_ok-put_all.ensures.state

pub run_apart-returns-clause-nodes : goal.run_apart-returns-clause-nodes
run_apart-returns-clause-nodes t c = back_is _ _ _ _ _ c.new-kept.ensures c.in_ok-run_actions.ensures.kept c.in_ok-put_all.ensures.nodes

pub run_apart-returns-clause-puts : goal.run_apart-returns-clause-puts
run_apart-returns-clause-puts t c =
    let back = back_is _ _ _ _ _ c.new-kept.ensures c.in_ok-run_actions.ensures.kept c.in_ok-put_all.ensures.nodes in
    subst (AreNodes c.args.scene.now c.put_all.new.arena) (sym (puts_are _ _ _ _ _ c.new-puts.ensures back c.in_ok-put_all.ensures.kept)) (nodes_kept _ _ _ _ c.in_ok-run_actions.ensures.state.nodes c.in_ok-put_all.ensures.stays)

pub run_apart-returns-clause-ran : goal.run_apart-returns-clause-ran
run_apart-returns-clause-ran t c =
    let back = back_is _ _ _ _ _ c.new-kept.ensures c.in_ok-run_actions.ensures.kept c.in_ok-put_all.ensures.nodes in
    ran_later _ _ _ _ _ _ _ _ _ c.requires.scene c.in_ok-run_actions.ensures.state.nodes c.in_ok-put_all.ensures.stays (puts_are _ _ _ _ _ c.new-puts.ensures back c.in_ok-put_all.ensures.kept) c.in_ok-run_actions.ensures.ran

pub run_apart-returns-in_err-run_actions-clause-state : goal.run_apart-returns-in_err-run_actions-clause-state
run_apart-returns-in_err-run_actions-clause-state t c = IfOk-from_err _ _ c.from_residual.ensures.0

pub run_apart-returns-in_err-run_actions-clause-nodes : goal.run_apart-returns-in_err-run_actions-clause-nodes
run_apart-returns-in_err-run_actions-clause-nodes t c = IfOk-from_err _ _ c.from_residual.ensures.0

pub run_apart-returns-in_err-run_actions-clause-puts : goal.run_apart-returns-in_err-run_actions-clause-puts
run_apart-returns-in_err-run_actions-clause-puts t c = IfOk-from_err _ _ c.from_residual.ensures.0

pub run_apart-returns-in_err-run_actions-clause-ran : goal.run_apart-returns-in_err-run_actions-clause-ran
run_apart-returns-in_err-run_actions-clause-ran t c = IfOk-from_err _ _ c.from_residual.ensures.0

pub run_apart-returns-in_err-put_all-clause-state : goal.run_apart-returns-in_err-put_all-clause-state
run_apart-returns-in_err-put_all-clause-state t c = IfOk-from_err _ _ c.from_residual-in_err-put_all.ensures.0

pub run_apart-returns-in_err-put_all-clause-nodes : goal.run_apart-returns-in_err-put_all-clause-nodes
run_apart-returns-in_err-put_all-clause-nodes t c = IfOk-from_err _ _ c.from_residual-in_err-put_all.ensures.0

pub run_apart-returns-in_err-put_all-clause-puts : goal.run_apart-returns-in_err-put_all-clause-puts
run_apart-returns-in_err-put_all-clause-puts t c = IfOk-from_err _ _ c.from_residual-in_err-put_all.ensures.0

pub run_apart-returns-in_err-put_all-clause-ran : goal.run_apart-returns-in_err-put_all-clause-ran
run_apart-returns-in_err-put_all-clause-ran t c = IfOk-from_err _ _ c.from_residual-in_err-put_all.ensures.0

pub run_apart-returns-in_err-put_all-clause-stays : goal.run_apart-returns-in_err-put_all-clause-stays
run_apart-returns-in_err-put_all-clause-stays t c = extends_on _ _ _ c.in_ok-run_actions.ensures.stays c.in_err-put_all.ensures.stays

-- ---- a case statement

pub run_action-compared-requires-clause-case : goal.run_action-compared-requires-clause-case
run_action-compared-requires-clause-case t c = (fits_match_by _ _ _ _ _ _ c.in-Match.is refl refl c.requires.fits).case

pub run_action-compared-requires-clause-narrow : goal.run_action-compared-requires-clause-narrow
run_action-compared-requires-clause-narrow t c = (sits_match_by _ _ _ _ _ _ _ c.in-Match.is refl refl c.requires.sits).value

pub run_action-run_apart-requires : goal.run_action-run_apart-requires
run_action-run_apart-requires t c = (
  falls_apart _ _ t (match_other _ _ _ _ _ _ c.in-Match.is c.as_slice-in-Match.ensures refl) c.decreases,
  (
    c.requires.scene,
    (state_kept _ _ _ _ c.in_ok-value-in-Match.ensures.stays c.requires.state, ((fits_match_by _ _ _ _ _ _ c.in-Match.is refl c.as_slice-in-Match.ensures c.requires.fits).other, (sits_match_by _ _ _ _ _ _ _ c.in-Match.is refl c.as_slice-in-Match.ensures c.requires.sits).other)),
  ),
)

pub run_action-run_arms-requires : goal.run_action-run_arms-requires
run_action-run_arms-requires t c = (
  falls_to _ _ t (match_arms _ _ _ _ _ _ c.in-Match.is c.as_slice-in-Match-2.ensures refl) c.decreases,
  (
    c.requires.scene,
    (
      c.in_ok-rest-in-Match.ensures.state,
      (
        nodes_over c.args.scene.now _ _ _ _ (sym c.in_ok-rest-in-Match.ensures.nodes) c.in_ok-rest-in-Match.ensures.puts,
        (
          (fits_match_by _ _ _ _ _ _ c.in-Match.is refl refl c.requires.fits).case,
          (
            (fits_match_by _ _ _ _ _ _ c.in-Match.is c.as_slice-in-Match-2.ensures refl c.requires.fits).each,
            (yields_over _ _ _ _ _ _ _ _ _ c.in_ok-rest-in-Match.ensures.nodes c.requires.scene (nodes_kept _ _ _ _ c.requires.state.nodes c.in_ok-value-in-Match.ensures.stays) c.in_ok-rest-in-Match.ensures.stays c.in_ok-value-in-Match.ensures.ok, (sits_match_by _ _ _ _ _ _ _ c.in-Match.is c.as_slice-in-Match-2.ensures refl c.requires.sits).each),
          ),
        ),
      ),
    ),
  ),
)

pub run_action-put_all-requires-clause-puts : goal.run_action-put_all-requires-clause-puts
run_action-put_all-requires-clause-puts t c = nodes_over c.args.scene.now _ _ _ _ (sym c.in_ok-run_arms-in-Match.ensures.nodes) c.in_ok-run_arms-in-Match.ensures.rest

pub run_action-returns-in_ok-run_arms-in-Match-clause-ran : goal.run_action-returns-in_ok-run_arms-in-Match-clause-ran
run_action-returns-in_ok-run_arms-in-Match-clause-ran t c =
    on_ok _ _ _ (λ put.
    ran_sooner _ _ _ _ _ _ _ _ c.requires.scene c.requires.state.nodes c.in_ok-value-in-Match.ensures.stays
    (ran_match_apart _ _ _ _ _ _ _ _ _ _ _ c.args.action.now _ _ _ _ _ c.requires.scene (nodes_kept _ _ _ _ c.requires.state.nodes c.in_ok-value-in-Match.ensures.stays) c.in_ok-rest-in-Match.ensures.nodes c.in_ok-run_arms-in-Match.ensures.nodes put
    c.in-Match.is c.as_slice-in-Match-2.ensures c.as_slice-in-Match.ensures c.in_ok-rest-in-Match.ensures.stays c.put_all.ensures.stays
    c.in_ok-run_arms-in-Match.ensures.rest c.in_ok-rest-in-Match.ensures.ran c.in_ok-run_arms-in-Match.ensures.ran))
    c.put_all.ensures.nodes

pub run_action-returns-in_ok-run_arms-in-Match-clause-kept : goal.run_action-returns-in_ok-run_arms-in-Match-clause-kept
run_action-returns-in_ok-run_arms-in-Match-clause-kept t c = kept_on c.put_all.result _ _ _ _ _ (c.in_ok-run_arms-in-Match.ensures.nodes ∙ c.in_ok-rest-in-Match.ensures.nodes) c.put_all.ensures.kept

-- ---- actions, one after another

pub run_actions-actions-init : goal.run_actions-actions-init
run_actions-actions-init t c = record { stays = extends_self _; state = c.requires.state; kept = refl; made = some_none _ _ _ _ }

pub run_actions-run_action-requires : goal.run_actions-run_action-requires
run_actions-run_action-requires t c =
    (falls_to _ _ t (action_less _ _ _ _ c.actions-test.true c.action-item.is refl) c.decreases, (c.requires.scene, (c.actions.invariant.state, (element Fits _ _ _ c.requires.fits c.actions-test.true c.action-item.is, element (Sits c.args.scene.now) _ _ _ c.requires.sits c.actions-test.true c.action-item.is))))

pub run_actions-actions-preserved : goal.run_actions-actions-preserved
run_actions-actions-preserved t c =
    let i = c.actions.invariant in
    record {
      stays = extends_on _ _ _ i.stays c.in_ok-run_action.ensures.stays;
      state = c.in_ok-run_action.ensures.state;
      kept = c.in_ok-run_action.ensures.kept ∙ i.kept;
      made = some_more _ _ _ _ _ _ _ _ _ _ c.actions-test.true c.action-item.is i.made c.in_ok-run_action.ensures.ran;
    }

pub run_actions-returns-clause-state : goal.run_actions-returns-clause-state
run_actions-returns-clause-state t c = c.actions.invariant.state

pub run_actions-returns-clause-kept : goal.run_actions-returns-clause-kept
run_actions-returns-clause-kept t c = c.actions.invariant.kept

pub run_actions-returns-in_err-run_action-clause-kept : goal.run_actions-returns-in_err-run_action-clause-kept
run_actions-returns-in_err-run_action-clause-kept t c = IfOk-from_err _ _ c.from_residual.ensures.0

pub run_actions-returns-clause-ran : goal.run_actions-returns-clause-ran
run_actions-returns-clause-ran t c = some_end _ _ _ _ _ _ _ c.actions-test.false c.actions.invariant.made

-- ---- arms, from the last backwards

pub run_arms-arms-init : goal.run_arms-arms-init
run_arms-arms-init t c = record {
  stays = extends_self _;
  within = omega arith;
  state = c.requires.state;
  same = refl;
  rest = c.requires.rest;
  made = arms_none c.args.scene.now _ c.args.case.now c.args.arms.now _ _ _ refl;
}

pub run_arms-run_arm-requires : goal.run_arms-run_arm-requires
run_arms-run_arm-requires t c =
    let i = c.arms.invariant in
    let l : c.arms.at - 1 < length c.args.arms.now = let a = c.arms-test.true in let b = i.within in omega arith in (
      falls_arm _ _ t (arm_less _ _ _ _ l c.index-arms-at.is refl) c.decreases,
      (
        c.requires.scene,
        (
          i.state,
          (
            nodes_over c.args.scene.now _ _ _ _ (sym i.same) i.rest,
            (c.requires.case, (element (ArmFits c.args.case.now) _ _ _ c.requires.arms l c.index-arms-at.is, (yields_over _ _ _ _ _ _ _ _ _ i.same c.requires.scene c.requires.state.nodes i.stays c.requires.value, element (ArmSits c.args.scene.now) _ _ _ c.requires.sits l c.index-arms-at.is))),
          ),
        ),
      ),
    )

pub run_arms-arms-preserved : goal.run_arms-arms-preserved
run_arms-arms-preserved t c =
    let i = c.arms.invariant in
    let l : c.arms.at - 1 < length c.args.arms.now = let a = c.arms-test.true in let b = i.within in omega arith in
    let next : c.arms.at ≡ c.arms.at - 1 + 1 = let a = c.arms-test.true in omega arith in
    record {
      stays = extends_on _ _ _ i.stays c.in_ok-run_arm.ensures.stays;
      within = let b = i.within in omega arith;
      state = c.in_ok-run_arm.ensures.state;
      same = c.in_ok-run_arm.ensures.nodes ∙ i.same;
      rest = nodes_over c.args.scene.now _ _ _ _ i.same c.in_ok-run_arm.ensures.rest;
      made =
          arms_more c.args.scene.now _ _ _ c.args.case.now c.args.arms.now (c.arms.at - 1) c.arms.at c.index-arms-at.result _ _ _ _ c.requires.scene c.requires.state.nodes i.stays l next c.index-arms-at.is
          i.made (arm_over c.args.scene.now _ _ c.args.case.now c.index-arms-at.result _ _ _ _ i.same c.in_ok-run_arm.ensures.ran);
    }

pub run_arms-returns-clause-nodes : goal.run_arms-returns-clause-nodes
run_arms-returns-clause-nodes t c = c.arms.invariant.same

pub run_arms-returns-clause-rest : goal.run_arms-returns-clause-rest
run_arms-returns-clause-rest t c = c.arms.invariant.rest

pub run_arms-returns-in_err-run_arm-clause-nodes : goal.run_arms-returns-in_err-run_arm-clause-nodes
run_arms-returns-in_err-run_arm-clause-nodes t c = IfOk-from_err _ _ c.from_residual.ensures.0

pub run_arms-returns-in_err-run_arm-clause-rest : goal.run_arms-returns-in_err-run_arm-clause-rest
run_arms-returns-in_err-run_arm-clause-rest t c = IfOk-from_err _ _ c.from_residual.ensures.0

pub run_arms-returns-clause-state : goal.run_arms-returns-clause-state
run_arms-returns-clause-state t c = c.arms.invariant.state

pub run_arms-returns-clause-ran : goal.run_arms-returns-clause-ran
run_arms-returns-clause-ran t c =
    let none : c.arms.at ≡ 0 = let a = c.arms-test.false in omega arith in
    arms_end c.args.scene.now _ _ c.args.case.now c.args.arms.now c.arms.at _ _ _ none c.arms.invariant.made

-- ---- one arm

pub run_arm-label_matches-requires-clause-labels : goal.run_arm-label_matches-requires-clause-labels
run_arm-label_matches-requires-clause-labels t c = subst (All (LabelFits c.args.case.now)) (sym c.as_slice.ensures) c.requires.arm.labels

pub run_arm-label_matches-requires-clause-sits : goal.run_arm-label_matches-requires-clause-sits
run_arm-label_matches-requires-clause-sits t c = subst (All (LabelSits c.args.scene.now)) (sym c.as_slice.ensures) c.requires.sits.labels

pub run_arm-label_matches-requires-clause-value : goal.run_arm-label_matches-requires-clause-value
run_arm-label_matches-requires-clause-value t c = c.requires.value

pub run_arm-run_apart-requires : goal.run_arm-run_apart-requires
run_arm-run_apart-requires t c = (
  (let h = ap all_size c.as_slice-2.ensures in let d = c.decreases in omega arith),
  (
    c.requires.scene,
    (state_kept _ _ _ _ c.in_ok-truth.ensures.stays c.requires.state, (subst (All Fits) (sym c.as_slice-2.ensures) c.requires.arm.body, subst (All (Sits c.args.scene.now)) (sym c.as_slice-2.ensures) c.requires.sits.body)),
  ),
)

pub run_arm-either-requires-clause-truth : goal.run_arm-either-requires-clause-truth
run_arm-either-requires-clause-truth t c = let e = c.in_ok-taken.ensures.stays.longer in let l = c.in_ok-truth.ensures.ok.within in omega arith

pub run_arm-either-requires-clause-one : goal.run_arm-either-requires-clause-one
run_arm-either-requires-clause-one t c = width-extends _ _ _ c.in_ok-taken.ensures.stays c.in_ok-truth.ensures.ok.within ∙ c.in_ok-truth.ensures.ok.width

pub run_arm-either-requires-clause-a : goal.run_arm-either-requires-clause-a
run_arm-either-requires-clause-a t c = nodes_over c.args.scene.now _ _ _ _ (sym (c.as_slice-3.ensures ∙ c.in_ok-taken.ensures.nodes)) c.in_ok-taken.ensures.puts

pub run_arm-either-requires-clause-b : goal.run_arm-either-requires-clause-b
run_arm-either-requires-clause-b t c =
    nodes_over c.args.scene.now _ _ _ _ (sym (c.as_slice-3.ensures ∙ c.in_ok-taken.ensures.nodes)) (nodes_kept _ _ _ _ c.requires.rest (extends_on _ _ _ c.in_ok-truth.ensures.stays c.in_ok-taken.ensures.stays))

pub run_arm-returns-clause-stays : goal.run_arm-returns-clause-stays
run_arm-returns-clause-stays t c = extends_on _ _ _ (extends_on _ _ _ c.in_ok-truth.ensures.stays c.in_ok-taken.ensures.stays) c.in_ok-both.ensures.stays

pub run_arm-returns-clause-state : goal.run_arm-returns-clause-state
run_arm-returns-clause-state t c = state_kept _ _ _ _ c.in_ok-both.ensures.stays c.in_ok-taken.ensures.state

pub run_arm-returns-clause-nodes : goal.run_arm-returns-clause-nodes
run_arm-returns-clause-nodes t c = c.in_ok-taken.ensures.nodes

pub run_arm-returns-clause-rest : goal.run_arm-returns-clause-rest
run_arm-returns-clause-rest t c = nodes_over c.args.scene.now _ _ _ _ (c.as_slice-3.ensures ∙ c.in_ok-taken.ensures.nodes) c.in_ok-both.ensures.ok.nodes_are

pub run_arm-returns-clause-ran : goal.run_arm-returns-clause-ran
run_arm-returns-clause-ran t c =
    ran_arm_apart _ _ _ _ _ _ _ _ _ _ c.args.case.now c.args.arm.now _ _ _ c.requires.scene c.requires.state.nodes c.requires.rest (c.as_slice-3.ensures ∙ c.in_ok-taken.ensures.nodes) c.as_slice.ensures c.as_slice-2.ensures
    c.in_ok-truth.ensures.stays c.in_ok-taken.ensures.stays c.in_ok-taken.ensures.puts c.in_ok-truth.ensures.ok c.in_ok-taken.ensures.ran c.in_ok-both.ensures.ok

-- ---- what stays, and what is wanted of no refusal

pub run_action-returns-in-Assign-clause-state : goal.run_action-returns-in-Assign-clause-state
run_action-returns-in-Assign-clause-state t c = c.assign.ensures.state

pub run_action-returns-in-Assign-clause-stays : goal.run_action-returns-in-Assign-clause-stays
run_action-returns-in-Assign-clause-stays t c = c.assign.ensures.stays

pub run_action-returns-in-Choose-clause-state : goal.run_action-returns-in-Choose-clause-state
run_action-returns-in-Choose-clause-state t c = c.run_choice.ensures.state

pub run_action-returns-in-Choose-clause-stays : goal.run_action-returns-in-Choose-clause-stays
run_action-returns-in-Choose-clause-stays t c = c.run_choice.ensures.stays

pub run_action-returns-in_err-value-in-Match-clause-state : goal.run_action-returns-in_err-value-in-Match-clause-state
run_action-returns-in_err-value-in-Match-clause-state t c = IfOk-from_err _ _ c.from_residual.ensures.0

pub run_action-returns-in_err-rest-in-Match-clause-state : goal.run_action-returns-in_err-rest-in-Match-clause-state
run_action-returns-in_err-rest-in-Match-clause-state t c = IfOk-from_err _ _ c.from_residual-in_err-rest-in-Match.ensures.0

pub run_action-returns-in_err-value-in-Match-clause-ran : goal.run_action-returns-in_err-value-in-Match-clause-ran
run_action-returns-in_err-value-in-Match-clause-ran t c = IfOk-from_err _ _ c.from_residual.ensures.0

pub run_action-returns-in_err-rest-in-Match-clause-ran : goal.run_action-returns-in_err-rest-in-Match-clause-ran
run_action-returns-in_err-rest-in-Match-clause-ran t c = IfOk-from_err _ _ c.from_residual-in_err-rest-in-Match.ensures.0

pub run_action-returns-in_err-value-in-Match-clause-kept : goal.run_action-returns-in_err-value-in-Match-clause-kept
run_action-returns-in_err-value-in-Match-clause-kept t c = IfOk-from_err _ _ c.from_residual.ensures.0

pub run_action-returns-in_err-rest-in-Match-clause-kept : goal.run_action-returns-in_err-rest-in-Match-clause-kept
run_action-returns-in_err-rest-in-Match-clause-kept t c = IfOk-from_err _ _ c.from_residual-in_err-rest-in-Match.ensures.0

pub run_action-returns-in_err-run_arms-in-Match-clause-state : goal.run_action-returns-in_err-run_arms-in-Match-clause-state
run_action-returns-in_err-run_arms-in-Match-clause-state t c = IfOk-from_err _ _ c.from_residual-in_err-run_arms-in-Match.ensures.0

pub run_action-returns-in_err-run_arms-in-Match-clause-ran : goal.run_action-returns-in_err-run_arms-in-Match-clause-ran
run_action-returns-in_err-run_arms-in-Match-clause-ran t c = IfOk-from_err _ _ c.from_residual-in_err-run_arms-in-Match.ensures.0

pub run_action-returns-in_err-run_arms-in-Match-clause-kept : goal.run_action-returns-in_err-run_arms-in-Match-clause-kept
run_action-returns-in_err-run_arms-in-Match-clause-kept t c = IfOk-from_err _ _ c.from_residual-in_err-run_arms-in-Match.ensures.0

pub run_action-returns-in_err-value-in-Match-clause-stays : goal.run_action-returns-in_err-value-in-Match-clause-stays
run_action-returns-in_err-value-in-Match-clause-stays t c = c.in_err-value-in-Match.ensures.stays

pub run_action-returns-in_err-rest-in-Match-clause-stays : goal.run_action-returns-in_err-rest-in-Match-clause-stays
run_action-returns-in_err-rest-in-Match-clause-stays t c = extends_on _ _ _ c.in_ok-value-in-Match.ensures.stays c.in_err-rest-in-Match.ensures.stays

pub run_action-returns-in_err-run_arms-in-Match-clause-stays : goal.run_action-returns-in_err-run_arms-in-Match-clause-stays
run_action-returns-in_err-run_arms-in-Match-clause-stays t c = extends_on _ _ _ (extends_on _ _ _ c.in_ok-value-in-Match.ensures.stays c.in_ok-rest-in-Match.ensures.stays) c.in_err-run_arms-in-Match.ensures.stays

pub run_action-returns-in_ok-run_arms-in-Match-clause-stays : goal.run_action-returns-in_ok-run_arms-in-Match-clause-stays
run_action-returns-in_ok-run_arms-in-Match-clause-stays t c =
    extends_on _ _ _ (extends_on _ _ _ (extends_on _ _ _ c.in_ok-value-in-Match.ensures.stays c.in_ok-rest-in-Match.ensures.stays) c.in_ok-run_arms-in-Match.ensures.stays) c.put_all.ensures.stays

pub run_action-returns-in_ok-run_arms-in-Match-clause-state : goal.run_action-returns-in_ok-run_arms-in-Match-clause-state
run_action-returns-in_ok-run_arms-in-Match-clause-state t c = c.put_all.ensures.state

pub run_action-returns-in-Assign-clause-kept : goal.run_action-returns-in-Assign-clause-kept
run_action-returns-in-Assign-clause-kept t c = c.assign.ensures.kept

pub run_action-returns-in-Choose-clause-kept : goal.run_action-returns-in-Choose-clause-kept
run_action-returns-in-Choose-clause-kept t c = c.run_choice.ensures.kept

pub run_actions-returns-in_err-run_action-clause-state : goal.run_actions-returns-in_err-run_action-clause-state
run_actions-returns-in_err-run_action-clause-state t c = IfOk-from_err _ _ c.from_residual.ensures.0

pub run_actions-returns-in_err-run_action-clause-ran : goal.run_actions-returns-in_err-run_action-clause-ran
run_actions-returns-in_err-run_action-clause-ran t c = IfOk-from_err _ _ c.from_residual.ensures.0

pub run_actions-returns-in_err-run_action-clause-stays : goal.run_actions-returns-in_err-run_action-clause-stays
run_actions-returns-in_err-run_action-clause-stays t c = extends_on _ _ _ c.actions.invariant.stays c.in_err-run_action.ensures.stays

pub run_actions-returns-clause-stays : goal.run_actions-returns-clause-stays
run_actions-returns-clause-stays t c = c.actions.invariant.stays

pub run_arms-returns-in_err-run_arm-clause-state : goal.run_arms-returns-in_err-run_arm-clause-state
run_arms-returns-in_err-run_arm-clause-state t c = IfOk-from_err _ _ c.from_residual.ensures.0

pub run_arms-returns-in_err-run_arm-clause-ran : goal.run_arms-returns-in_err-run_arm-clause-ran
run_arms-returns-in_err-run_arm-clause-ran t c = IfOk-from_err _ _ c.from_residual.ensures.0

pub run_arms-returns-in_err-run_arm-clause-stays : goal.run_arms-returns-in_err-run_arm-clause-stays
run_arms-returns-in_err-run_arm-clause-stays t c = extends_on _ _ _ c.arms.invariant.stays c.in_err-run_arm.ensures.stays

pub run_arms-returns-clause-stays : goal.run_arms-returns-clause-stays
run_arms-returns-clause-stays t c = c.arms.invariant.stays

pub run_arm-returns-in_err-truth-clause-state : goal.run_arm-returns-in_err-truth-clause-state
run_arm-returns-in_err-truth-clause-state t c = IfOk-from_err _ _ c.from_residual.ensures.0

pub run_arm-returns-in_err-truth-clause-nodes : goal.run_arm-returns-in_err-truth-clause-nodes
run_arm-returns-in_err-truth-clause-nodes t c = IfOk-from_err _ _ c.from_residual.ensures.0

pub run_arm-returns-in_err-truth-clause-rest : goal.run_arm-returns-in_err-truth-clause-rest
run_arm-returns-in_err-truth-clause-rest t c = IfOk-from_err _ _ c.from_residual.ensures.0

pub run_arm-returns-in_err-truth-clause-ran : goal.run_arm-returns-in_err-truth-clause-ran
run_arm-returns-in_err-truth-clause-ran t c = IfOk-from_err _ _ c.from_residual.ensures.0

pub run_arm-returns-in_err-taken-clause-state : goal.run_arm-returns-in_err-taken-clause-state
run_arm-returns-in_err-taken-clause-state t c = IfOk-from_err _ _ c.from_residual-in_err-taken.ensures.0

pub run_arm-returns-in_err-taken-clause-nodes : goal.run_arm-returns-in_err-taken-clause-nodes
run_arm-returns-in_err-taken-clause-nodes t c = IfOk-from_err _ _ c.from_residual-in_err-taken.ensures.0

pub run_arm-returns-in_err-taken-clause-rest : goal.run_arm-returns-in_err-taken-clause-rest
run_arm-returns-in_err-taken-clause-rest t c = IfOk-from_err _ _ c.from_residual-in_err-taken.ensures.0

pub run_arm-returns-in_err-taken-clause-ran : goal.run_arm-returns-in_err-taken-clause-ran
run_arm-returns-in_err-taken-clause-ran t c = IfOk-from_err _ _ c.from_residual-in_err-taken.ensures.0

pub run_arm-returns-in_err-both-clause-state : goal.run_arm-returns-in_err-both-clause-state
run_arm-returns-in_err-both-clause-state t c = IfOk-from_err _ _ c.from_residual-in_err-both.ensures.0

pub run_arm-returns-in_err-both-clause-nodes : goal.run_arm-returns-in_err-both-clause-nodes
run_arm-returns-in_err-both-clause-nodes t c = IfOk-from_err _ _ c.from_residual-in_err-both.ensures.0

pub run_arm-returns-in_err-both-clause-rest : goal.run_arm-returns-in_err-both-clause-rest
run_arm-returns-in_err-both-clause-rest t c = IfOk-from_err _ _ c.from_residual-in_err-both.ensures.0

pub run_arm-returns-in_err-both-clause-ran : goal.run_arm-returns-in_err-both-clause-ran
run_arm-returns-in_err-both-clause-ran t c = IfOk-from_err _ _ c.from_residual-in_err-both.ensures.0

pub run_arm-returns-in_err-taken-clause-stays : goal.run_arm-returns-in_err-taken-clause-stays
run_arm-returns-in_err-taken-clause-stays t c = extends_on _ _ _ c.in_ok-truth.ensures.stays c.in_err-taken.ensures.stays

pub run_arm-returns-in_err-both-clause-stays : goal.run_arm-returns-in_err-both-clause-stays
run_arm-returns-in_err-both-clause-stays t c = extends_on _ _ _ (extends_on _ _ _ c.in_ok-truth.ensures.stays c.in_ok-taken.ensures.stays) c.in_err-both.ensures.stays

pub run_arm-returns-in_err-truth-clause-stays : goal.run_arm-returns-in_err-truth-clause-stays
run_arm-returns-in_err-truth-clause-stays t c = c.in_err-truth.ensures.stays

pub run_choice-returns-in_err-truth-clause-stays : goal.run_choice-returns-in_err-truth-clause-stays
run_choice-returns-in_err-truth-clause-stays t c = c.in_err-truth.ensures.stays

pub run_apart-returns-in_err-run_actions-clause-stays : goal.run_apart-returns-in_err-run_actions-clause-stays
run_apart-returns-in_err-run_actions-clause-stays t c = c.in_err-run_actions.ensures.stays
