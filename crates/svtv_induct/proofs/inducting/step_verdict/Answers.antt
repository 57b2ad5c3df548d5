use Rattle.std.proofs.Common.{List, subst, sym}
use Rattle.std.proofs.lemmas.Result.{IfOk-weaker}
use Rattle.fourvec.specs.declared.Bit.{Bit}
use Rattle.svtv_table.specs.Stimuli.{IsChoice}
use Rattle.svtv_induct.specs.Halves.{IsHalf}
use Rattle.svtv_induct.specs.Inducting.{IsChosen, IsStepBy}
use Rattle.svtv_induct.specs.Showing.{IsShownStep}
use Rattle.svtv_induct.specs.States.{with_vars}
use Rattle.svtv_induct.specs.declared.half.Half.{Half}
use Rattle.svtv_induct.proofs.Failing.{shown_right, shown_vectors}
use Rattle.svtv_induct.proofs.inducting.step_verdict.Goals as goal

pub failed_step-requires-clause-half : goal.failed_step-requires-clause-half
failed_step-requires-clause-half c = subst (λ (h : Half). IsHalf h c.args.at) (sym c.ask_step.ensures.same) c.requires.step

pub failed_step-requires-clause-choice : goal.failed_step-requires-clause-choice
failed_step-requires-clause-choice c =
    let step = c.args.step.now in
    let chosen = subst (IsChosen (with_vars step.bound step.fsm.flat.wires).vars) c.in-Found.is c.in_ok-choice.ensures.chosen in
    subst (λ (h : Half). IsChoice (with_vars h.bound h.fsm.flat.wires).vars c.as_slice.result.now) (sym c.ask_step.ensures.same)
    (subst (λ (v : List (List Bit)). IsChoice (with_vars step.bound step.fsm.flat.wires).vars v) (sym c.as_slice.ensures) chosen)

pub returns-in-Found-clause-right : goal.returns-in-Found-clause-right
returns-in-Found-clause-right c =
    let step = c.args.step.now in
    let found = c.in-Found.choice in
    IfOk-weaker c.failed_step.result _ _
    (λ verdict s d flat e o.
    shown_right d flat step c.args.at c.args.budget found verdict c.requires.step e o (subst (IsChosen (with_vars step.bound step.fsm.flat.wires).vars) c.in-Found.is c.in_ok-choice.ensures.chosen)
    (subst (IsStepBy d step c.args.at c.args.budget) c.in-Found.is (c.in_ok-choice.ensures.answer d flat e o))
    (subst (λ (v : List (List Bit)). IsShownStep step v verdict) c.as_slice.ensures (subst (λ (h : Half). IsShownStep h c.as_slice.result.now verdict) c.ask_step.ensures.same s))) c.failed_step.ensures

pub returns-in-Never-clause-right : goal.returns-in-Never-clause-right
returns-in-Never-clause-right c = λ d flat e o. subst (IsStepBy d c.args.step.now c.args.at c.args.budget) c.in-Never.is (c.in_ok-choice.ensures.answer d flat e o)

pub returns-in-Found-clause-vectors : goal.returns-in-Found-clause-vectors
returns-in-Found-clause-vectors c =
    let step = c.args.step.now in
    let found = c.in-Found.choice in
    IfOk-weaker c.failed_step.result _ _
    (λ verdict s base.
    shown_vectors base step c.args.at found verdict c.requires.step (subst (IsChosen (with_vars step.bound step.fsm.flat.wires).vars) c.in-Found.is c.in_ok-choice.ensures.chosen)
    (subst (λ (v : List (List Bit)). IsShownStep step v verdict) c.as_slice.ensures (subst (λ (h : Half). IsShownStep h c.as_slice.result.now verdict) c.ask_step.ensures.same s))) c.failed_step.ensures
