use Rattle.std.proofs.lemmas.Result.{IfOk-from_err}
use Rattle.std.proofs.Common.{◌≡◌, ◌∙◌, ◌++◌, subst, refl, sym, ap, arith, All}
use Rattle.sv_lower.proofs.Lowered.{element}
use Rattle.sv_meaning.specs.Targets.{present}
use Rattle.sv_targets.specs.Slots.{slots_of}
use Rattle.sv_actions.specs.Doing.{Fits, writes, writes_all}
use Rattle.sv_blocks.specs.Running.{ArmFits}
use Rattle.sv_blocks.proofs.Acting.{fits_assign_by, fits_choose_by, fits_match_by}
use Rattle.sv_blocks.proofs.Falling.{all_size, choose_left, choose_right, match_other, match_arms, action_less, arm_less}
use Rattle.sv_blocks.proofs.Running.{on_ok}
use Rattle.sv_blocks.proofs.Marking.{bits_assign, bits_choose, bits_match, writes_more, writes_begin, arms_bits_more, arms_bits_begin}
use Rattle.sv_blocks.proofs.bits.+bits.Goals as goal

-- ---- one action

pub action_bits-target_bits-requires : goal.action_bits-target_bits-requires
action_bits-target_bits-requires t c = (fits_assign_by _ _ _ _ c.in-Assign.is c.as_slice.ensures c.requires).targets

pub action_bits-returns-in-Assign : goal.action_bits-returns-in-Assign
action_bits-returns-in-Assign t c =
    on_ok c.target_bits.result (c.target_bits.new.bits.items ≡ c.args.bits.now.items ++ present (slots_of c.as_slice.result.now)) (c.target_bits.new.bits.items ≡ c.args.bits.now.items ++ writes c.args.action.now)
    (λ k. bits_assign c.args.action.now _ _ _ c.args.bits.now.items _ c.in-Assign.is c.as_slice.ensures k) c.target_bits.ensures

pub action_bits-all_bits-requires : goal.action_bits-all_bits-requires
action_bits-all_bits-requires t c = (choose_left _ _ _ _ _ t c.in-Choose.is c.as_slice-in-Choose.ensures c.decreases, (fits_choose_by _ _ _ _ _ _ c.in-Choose.is c.as_slice-in-Choose.ensures refl c.requires).taken)

pub action_bits-all_bits-requires-in-Choose : goal.action_bits-all_bits-requires-in-Choose
action_bits-all_bits-requires-in-Choose t c = (choose_right _ _ _ _ _ t c.in-Choose.is c.as_slice-in-Choose-2.ensures c.decreases, (fits_choose_by _ _ _ _ _ _ c.in-Choose.is refl c.as_slice-in-Choose-2.ensures c.requires).other)

pub action_bits-returns-in_ok-all_bits-in-Choose : goal.action_bits-returns-in_ok-all_bits-in-Choose
action_bits-returns-in_ok-all_bits-in-Choose t c =
    on_ok c.all_bits-in-Choose.result (c.all_bits-in-Choose.new.bits.items ≡ c.all_bits.new.bits.items ++ writes_all c.as_slice-in-Choose-2.result.now) (c.all_bits-in-Choose.new.bits.items ≡ c.args.bits.now.items ++ writes c.args.action.now)
    (λ k. bits_choose c.args.action.now _ _ _ _ _ c.args.bits.now.items _ _ c.in-Choose.is c.as_slice-in-Choose.ensures c.as_slice-in-Choose-2.ensures c.in_ok-all_bits-in-Choose.ensures k) c.all_bits-in-Choose.ensures

pub action_bits-arm_bits-requires : goal.action_bits-arm_bits-requires
action_bits-arm_bits-requires t c = (match_arms _ _ _ _ _ t c.in-Match.is c.as_slice-in-Match.ensures c.decreases, (fits_match_by _ _ _ _ _ _ c.in-Match.is c.as_slice-in-Match.ensures refl c.requires).each)

pub action_bits-all_bits-requires-in-Match : goal.action_bits-all_bits-requires-in-Match
action_bits-all_bits-requires-in-Match t c = (match_other _ _ _ _ _ t c.in-Match.is c.as_slice-in-Match-2.ensures c.decreases, (fits_match_by _ _ _ _ _ _ c.in-Match.is refl c.as_slice-in-Match-2.ensures c.requires).other)

pub action_bits-returns-in_ok-arm_bits-in-Match : goal.action_bits-returns-in_ok-arm_bits-in-Match
action_bits-returns-in_ok-arm_bits-in-Match t c =
    on_ok c.all_bits-in-Match.result (c.all_bits-in-Match.new.bits.items ≡ c.arm_bits.new.bits.items ++ writes_all c.as_slice-in-Match-2.result.now) (c.all_bits-in-Match.new.bits.items ≡ c.args.bits.now.items ++ writes c.args.action.now)
    (λ k. bits_match c.args.action.now _ _ _ _ _ c.args.bits.now.items _ _ c.in-Match.is c.as_slice-in-Match.ensures c.as_slice-in-Match-2.ensures c.in_ok-arm_bits-in-Match.ensures k) c.all_bits-in-Match.ensures

-- ---- actions, one after another

pub all_bits-actions-init : goal.all_bits-actions-init
all_bits-actions-init t c = writes_begin c.args.actions.now c.args.bits.now.items

pub all_bits-action_bits-requires : goal.all_bits-action_bits-requires
all_bits-action_bits-requires t c = (action_less _ _ _ t c.actions-test.true c.action-item.is c.decreases, element Fits _ _ _ c.requires c.actions-test.true c.action-item.is)

pub all_bits-actions-preserved : goal.all_bits-actions-preserved
all_bits-actions-preserved t c = writes_more c.args.actions.now _ _ c.args.bits.now.items _ _ c.actions-test.true c.action-item.is c.actions.invariant c.in_ok-action_bits.ensures

-- ---- arms

pub arm_bits-arms-init : goal.arm_bits-arms-init
arm_bits-arms-init t c = arms_bits_begin c.args.arms.now c.args.bits.now.items

pub arm_bits-all_bits-requires : goal.arm_bits-all_bits-requires
arm_bits-all_bits-requires t c =
    let l = arm_less _ _ _ t c.arms-test.true c.arm-item.is c.decreases in
    let same = ap all_size c.as_slice.ensures in
    let fits = (element (ArmFits c.args.case.now) _ _ _ c.requires c.arms-test.true c.arm-item.is).body in
    (omega arith, subst (λ xs. All Fits xs) (sym c.as_slice.ensures) fits)

pub arm_bits-arms-preserved : goal.arm_bits-arms-preserved
arm_bits-arms-preserved t c = arms_bits_more c.args.arms.now _ _ c.args.bits.now.items _ _ c.arms-test.true c.arm-item.is c.arms.invariant (c.in_ok-all_bits.ensures ∙ ap (λ xs. c.arms.bits.items ++ writes_all xs) c.as_slice.ensures)

pub action_bits-returns-in_err-all_bits-in-Choose : goal.action_bits-returns-in_err-all_bits-in-Choose
action_bits-returns-in_err-all_bits-in-Choose t c = IfOk-from_err _ _ c.from_residual.ensures.0

pub action_bits-returns-in_err-arm_bits-in-Match : goal.action_bits-returns-in_err-arm_bits-in-Match
action_bits-returns-in_err-arm_bits-in-Match t c = IfOk-from_err _ _ c.from_residual-in_err-arm_bits-in-Match.ensures.0

pub all_bits-returns-in_err-action_bits : goal.all_bits-returns-in_err-action_bits
all_bits-returns-in_err-action_bits t c = IfOk-from_err _ _ c.from_residual.ensures.0

pub arm_bits-returns-in_err-all_bits : goal.arm_bits-returns-in_err-all_bits
arm_bits-returns-in_err-all_bits t c = IfOk-from_err _ _ c.from_residual.ensures.0
