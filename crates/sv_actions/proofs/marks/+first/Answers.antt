use Rattle.std.proofs.Common.{ap, ◌∙◌, arith}
use Rattle.sv_meaning.specs.Blocks.{earlier, first_mark}
use Rattle.sv_actions.specs.Listing.{arm_mark}
use Rattle.sv_actions.proofs.Leading.{first_empty, first_block, first_if, first_case, first_for, first_assign, first_labels, first_default, first_next, first_none, first_all}
use Rattle.sv_actions.proofs.marks.+first.Goals as goal

pub first_mark_arm-returns-in-Labels : goal.first_mark_arm-returns-in-Labels
first_mark_arm-returns-in-Labels t c = first_labels c.args.arm.now c.in-Labels.field-0 c.in-Labels.body c.get.result.now c.first_mark.result c.in-Labels.is c.get.ensures c.first_mark.ensures

pub first_mark_arm-returns-in-Default : goal.first_mark_arm-returns-in-Default
first_mark_arm-returns-in-Default t c =
    first_default c.args.arm.now c.in-Default.field-0 c.in-Default.body c.get-in-Default.result.now c.first_mark-in-Default.result c.in-Default.is c.get-in-Default.ensures c.first_mark-in-Default.ensures

pub first_mark-returns-in-Empty : goal.first_mark-returns-in-Empty
first_mark-returns-in-Empty t c = first_empty c.args.stmt.now c.in-Empty.is

pub first_mark-returns-in-Block : goal.first_mark-returns-in-Block
first_mark-returns-in-Block t c =
    first_block c.args.stmt.now c.in-Block.field-0 c.in-Block.field-1 c.in-Block.all c.as_slice.result.now c.in-Block.field-3 c.first_mark_of.result c.in-Block.is c.as_slice.ensures c.first_mark_of.ensures

pub first_mark-returns-in-If : goal.first_mark-returns-in-If
first_mark-returns-in-If t c =
    first_if c.args.stmt.now c.in-If.field-0 c.in-If.field-1 c.in-If.body c.get.result.now c.in-If.other c.earlier.result c.in-If.is c.get.ensures
    (c.earlier.ensures ∙ ap (λ z. earlier z c.first_mark_else.result) c.first_mark.ensures ∙ ap (λ z. earlier (first_mark c.get.result.now) z) c.first_mark_else.ensures)

pub first_mark-returns-in-Case : goal.first_mark-returns-in-Case
first_mark-returns-in-Case t c =
    first_case c.args.stmt.now c.in-Case.field-0 c.in-Case.field-1 c.in-Case.field-2 c.in-Case.arms c.as_slice-in-Case.result.now c.first_mark_arms.result c.in-Case.is c.as_slice-in-Case.ensures c.first_mark_arms.ensures

pub first_mark-returns-in-For : goal.first_mark-returns-in-For
first_mark-returns-in-For t c =
    first_for c.args.stmt.now c.in-For.field-0 c.in-For.field-1 c.in-For.field-2 c.in-For.field-3 c.in-For.field-4 c.in-For.field-5 c.in-For.body c.get-in-For.result.now c.first_mark-in-For.result c.in-For.is c.get-in-For.ensures c.first_mark-in-For.ensures

pub first_mark-returns-in-Assign : goal.first_mark-returns-in-Assign
first_mark-returns-in-Assign t c = first_assign c.args.stmt.now c.in-Assign.field-0 c.in-Assign.mark c.in-Assign.field-2 c.in-Assign.field-3 c.in-Assign.is

pub first_mark_of-parts-init : goal.first_mark_of-parts-init
first_mark_of-parts-init t c = first_none first_mark

pub first_mark_arms-parts-init : goal.first_mark_arms-parts-init
first_mark_arms-parts-init t c = first_none arm_mark

pub first_mark_of-parts-preserved : goal.first_mark_of-parts-preserved
first_mark_of-parts-preserved t c =
    first_next first_mark c.args.all.now c.parts.part-index c.part-item.result c.parts.found c.first_mark.result c.earlier-found.result c.parts-test.true c.part-item.is c.earlier-found.ensures c.parts.invariant c.first_mark.ensures

pub first_mark_arms-parts-preserved : goal.first_mark_arms-parts-preserved
first_mark_arms-parts-preserved t c =
    first_next arm_mark c.args.all.now c.parts.part-index c.part-item.result c.parts.found c.first_mark_arm.result c.earlier-found.result c.parts-test.true c.part-item.is c.earlier-found.ensures c.parts.invariant c.first_mark_arm.ensures

pub first_mark_of-returns : goal.first_mark_of-returns
first_mark_of-returns t c = first_all first_mark c.args.all.now c.parts.part-index c.parts.found (omega arith) c.parts.invariant

pub first_mark_arms-returns : goal.first_mark_arms-returns
first_mark_arms-returns t c = first_all arm_mark c.args.all.now c.parts.part-index c.parts.found (omega arith) c.parts.invariant
