use Rattle.std.proofs.Common.{take, arith}
use Rattle.sv_meaning.specs.Blocks.{marks}
use Rattle.sv_actions.specs.Listing.{arm_marks, else_marks, faults_in}
use Rattle.sv_actions.proofs.Marking.{marked_empty, marked_block, marked_if, marked_case, marked_for, marked_assign, marked_labels, marked_default, faults_next, faults_none, faults_all}
use Rattle.sv_actions.proofs.marks.+mark.Goals as goal

pub marks_arm-returns-in-Labels : goal.marks_arm-returns-in-Labels
marks_arm-returns-in-Labels t c = marked_labels c.args.mark c.args.arm.now c.in-Labels.field-0 c.in-Labels.body c.get.result.now c.marks_in.result c.in-Labels.is c.get.ensures c.marks_in.ensures

pub marks_arm-returns-in-Default : goal.marks_arm-returns-in-Default
marks_arm-returns-in-Default t c =
    marked_default c.args.mark c.args.arm.now c.in-Default.field-0 c.in-Default.body c.get-in-Default.result.now c.marks_in-in-Default.result c.in-Default.is c.get-in-Default.ensures c.marks_in-in-Default.ensures

pub marks_in-returns-in-Empty : goal.marks_in-returns-in-Empty
marks_in-returns-in-Empty t c = marked_empty c.args.mark c.args.stmt.now c.in-Empty.is

pub marks_in-returns-in-Block : goal.marks_in-returns-in-Block
marks_in-returns-in-Block t c =
    marked_block c.args.mark c.args.stmt.now c.in-Block.field-0 c.in-Block.field-1 c.in-Block.all c.as_slice.result.now c.in-Block.field-3 c.marks_of.result c.in-Block.is c.as_slice.ensures c.marks_of.ensures

pub marks_in-returns-in-If : goal.marks_in-returns-in-If
marks_in-returns-in-If t c =
    marked_if c.args.mark c.args.stmt.now c.in-If.field-0 c.in-If.field-1 c.in-If.body c.get.result.now c.in-If.other c.both.result c.in-If.is c.get.ensures
    (c.both.ensures (marks c.args.mark c.get.result.now) (else_marks c.args.mark c.in-If.other) c.marks_in.ensures c.marks_else.ensures)

pub marks_in-returns-in-Case : goal.marks_in-returns-in-Case
marks_in-returns-in-Case t c =
    marked_case c.args.mark c.args.stmt.now c.in-Case.field-0 c.in-Case.field-1 c.in-Case.field-2 c.in-Case.arms c.as_slice-in-Case.result.now c.marks_arms.result c.in-Case.is c.as_slice-in-Case.ensures c.marks_arms.ensures

pub marks_in-returns-in-For : goal.marks_in-returns-in-For
marks_in-returns-in-For t c =
    marked_for c.args.mark c.args.stmt.now c.in-For.field-0 c.in-For.field-1 c.in-For.field-2 c.in-For.field-3 c.in-For.field-4 c.in-For.field-5 c.in-For.body c.get-in-For.result.now c.marks_in-in-For.result
    c.in-For.is c.get-in-For.ensures c.marks_in-in-For.ensures

pub marks_in-returns-in-Assign : goal.marks_in-returns-in-Assign
marks_in-returns-in-Assign t c = marked_assign c.args.mark c.args.stmt.now c.in-Assign.field-0 c.in-Assign.given c.in-Assign.place c.in-Assign.field-3 c.mark_at.result c.in-Assign.is c.mark_at.ensures

pub marks_of-parts-init : goal.marks_of-parts-init
marks_of-parts-init t c = faults_none (marks c.args.mark)

pub marks_arms-parts-init : goal.marks_arms-parts-init
marks_arms-parts-init t c = faults_none (arm_marks c.args.mark)

pub marks_of-parts-preserved : goal.marks_of-parts-preserved
marks_of-parts-preserved t c =
    faults_next (marks c.args.mark) c.args.all.now c.parts.part-index c.part-item.result c.both-found.result c.parts-test.true c.part-item.is
    (c.both-found.ensures (faults_in (marks c.args.mark) (take c.parts.part-index c.args.all.now)) (marks c.args.mark c.part-item.result) c.parts.invariant c.marks_in.ensures)

pub marks_arms-parts-preserved : goal.marks_arms-parts-preserved
marks_arms-parts-preserved t c =
    faults_next (arm_marks c.args.mark) c.args.all.now c.parts.part-index c.part-item.result c.both-found.result c.parts-test.true c.part-item.is
    (c.both-found.ensures (faults_in (arm_marks c.args.mark) (take c.parts.part-index c.args.all.now)) (arm_marks c.args.mark c.part-item.result) c.parts.invariant c.marks_arm.ensures)

pub marks_of-returns : goal.marks_of-returns
marks_of-returns t c = faults_all (marks c.args.mark) c.args.all.now c.parts.part-index c.parts.found (omega arith) c.parts.invariant

pub marks_arms-returns : goal.marks_arms-returns
marks_arms-returns t c = faults_all (arm_marks c.args.mark) c.args.all.now c.parts.part-index c.parts.found (omega arith) c.parts.invariant
