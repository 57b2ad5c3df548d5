use Rattle.std.proofs.lemmas.Result.{IfOk-from_err}
use Rattle.std.proofs.Common.{arith}
use Rattle.sv_names.specs.Names.{names_are}
use Rattle.sv_actions.specs.Texts.{target_signals, arm_signals}
use Rattle.sv_blocks.specs.Declaring.{wires_are}
use Rattle.sv_actions.proofs.Rooting.{ok_tail, of_empty, of_block, of_if, of_case, of_for, of_assign, of_other, of_no_other, of_labels, of_default, each_begin, each_more, each_end}
use Rattle.sv_blocks.proofs.wires.+statement.Goals as goal

pub stmt_wires-returns-in-Empty-clause-is : goal.stmt_wires-returns-in-Empty-clause-is
stmt_wires-returns-in-Empty-clause-is t c = of_empty (names_are c.args.names.now) c.args.stmt.now (wires_are c.args.wires.now.items) c.in-Empty.is

pub stmt_wires-returns-in-Block-clause-is : goal.stmt_wires-returns-in-Block-clause-is
stmt_wires-returns-in-Block-clause-is t c =
    ok_tail c.all_stmt_wires.result (wires_are c.all_stmt_wires.new.wires.items) (wires_are c.args.wires.now.items) _ _ (of_block (names_are c.args.names.now) c.args.stmt.now _ _ _ _ _ c.in-Block.is c.as_slice.ensures) c.all_stmt_wires.ensures.is

pub stmt_wires-returns-in_ok-stmt_wires-in-If-clause-is : goal.stmt_wires-returns-in_ok-stmt_wires-in-If-clause-is
stmt_wires-returns-in_ok-stmt_wires-in-If-clause-is t c =
    of_if c.other_wires.result (names_are c.args.names.now) c.args.stmt.now _ _ _ _ _ (wires_are c.args.wires.now.items) _ (wires_are c.other_wires.new.wires.items) c.in-If.is c.get.ensures c.in_ok-stmt_wires-in-If.ensures.is c.other_wires.ensures.is

pub stmt_wires-returns-in-Case-clause-is : goal.stmt_wires-returns-in-Case-clause-is
stmt_wires-returns-in-Case-clause-is t c =
    ok_tail c.arms_wires.result (wires_are c.arms_wires.new.wires.items) (wires_are c.args.wires.now.items) _ _ (of_case (names_are c.args.names.now) c.args.stmt.now _ _ _ _ _ c.in-Case.is c.as_slice-in-Case.ensures) c.arms_wires.ensures.is

pub stmt_wires-returns-in-For-clause-is : goal.stmt_wires-returns-in-For-clause-is
stmt_wires-returns-in-For-clause-is t c =
    ok_tail c.stmt_wires-in-For.result (wires_are c.stmt_wires-in-For.new.wires.items) (wires_are c.args.wires.now.items) _ _ (of_for (names_are c.args.names.now) c.args.stmt.now _ _ _ _ _ _ _ _ c.in-For.is c.get-in-For.ensures) c.stmt_wires-in-For.ensures.is

pub stmt_wires-returns-in-Assign-clause-is : goal.stmt_wires-returns-in-Assign-clause-is
stmt_wires-returns-in-Assign-clause-is t c =
    ok_tail c.target_wires.result (wires_are c.target_wires.new.wires.items) (wires_are c.args.wires.now.items) _ _ (of_assign (names_are c.args.names.now) c.args.stmt.now _ _ _ _ c.in-Assign.is) c.target_wires.ensures.is

pub other_wires-returns-in-Some-clause-is : goal.other_wires-returns-in-Some-clause-is
other_wires-returns-in-Some-clause-is t c =
    ok_tail c.stmt_wires.result (wires_are c.stmt_wires.new.wires.items) (wires_are c.args.wires.now.items) _ _ (of_other (names_are c.args.names.now) c.args.other.now _ _ c.in-Some.is c.get.ensures) c.stmt_wires.ensures.is

pub other_wires-returns-in-None-clause-is : goal.other_wires-returns-in-None-clause-is
other_wires-returns-in-None-clause-is t c = of_no_other (names_are c.args.names.now) c.args.other.now (wires_are c.args.wires.now.items) c.in-None.is

pub arm_wires-returns-in-Labels-clause-is : goal.arm_wires-returns-in-Labels-clause-is
arm_wires-returns-in-Labels-clause-is t c =
    ok_tail c.stmt_wires.result (wires_are c.stmt_wires.new.wires.items) (wires_are c.args.wires.now.items) _ _ (of_labels (names_are c.args.names.now) c.args.arm.now _ _ _ c.in-Labels.is c.get.ensures) c.stmt_wires.ensures.is

pub arm_wires-returns-in-Default-clause-is : goal.arm_wires-returns-in-Default-clause-is
arm_wires-returns-in-Default-clause-is t c =
    ok_tail c.stmt_wires-in-Default.result (wires_are c.stmt_wires-in-Default.new.wires.items) (wires_are c.args.wires.now.items) _ _ (of_default (names_are c.args.names.now) c.args.arm.now _ _ _ c.in-Default.is c.get-in-Default.ensures) c.stmt_wires-in-Default.ensures.is

pub all_stmt_wires-parts-init : goal.all_stmt_wires-parts-init
all_stmt_wires-parts-init t c = record { is = each_begin (target_signals (names_are c.args.names.now)) c.args.all.now (wires_are c.args.wires.now.items); bits = c.requires }

pub all_stmt_wires-parts-preserved : goal.all_stmt_wires-parts-preserved
all_stmt_wires-parts-preserved t c = record {
  is = each_more (target_signals (names_are c.args.names.now)) c.args.all.now _ _ (wires_are c.args.wires.now.items) _ _ c.parts-test.true c.part-item.is c.parts.invariant.is c.in_ok-stmt_wires.ensures.is;
  bits = c.in_ok-stmt_wires.ensures.bits;
}

pub all_stmt_wires-returns-clause-is : goal.all_stmt_wires-returns-clause-is
all_stmt_wires-returns-clause-is t c = each_end (target_signals (names_are c.args.names.now)) c.args.all.now _ (wires_are c.args.wires.now.items) _ (omega arith) c.parts.invariant.is

pub arms_wires-parts-init : goal.arms_wires-parts-init
arms_wires-parts-init t c = record { is = each_begin (arm_signals (names_are c.args.names.now)) c.args.arms.now (wires_are c.args.wires.now.items); bits = c.requires }

pub arms_wires-parts-preserved : goal.arms_wires-parts-preserved
arms_wires-parts-preserved t c = record {
  is = each_more (arm_signals (names_are c.args.names.now)) c.args.arms.now _ _ (wires_are c.args.wires.now.items) _ _ c.parts-test.true c.part-item.is c.parts.invariant.is c.in_ok-arm_wires.ensures.is;
  bits = c.in_ok-arm_wires.ensures.bits;
}

pub arms_wires-returns-clause-is : goal.arms_wires-returns-clause-is
arms_wires-returns-clause-is t c = each_end (arm_signals (names_are c.args.names.now)) c.args.arms.now _ (wires_are c.args.wires.now.items) _ (omega arith) c.parts.invariant.is

pub all_stmt_wires-returns-in_err-stmt_wires-clause-is : goal.all_stmt_wires-returns-in_err-stmt_wires-clause-is
all_stmt_wires-returns-in_err-stmt_wires-clause-is t c = IfOk-from_err _ _ c.from_residual.ensures.0

pub arms_wires-returns-in_err-arm_wires-clause-is : goal.arms_wires-returns-in_err-arm_wires-clause-is
arms_wires-returns-in_err-arm_wires-clause-is t c = IfOk-from_err _ _ c.from_residual.ensures.0

pub stmt_wires-returns-in_err-stmt_wires-in-If-clause-is : goal.stmt_wires-returns-in_err-stmt_wires-in-If-clause-is
stmt_wires-returns-in_err-stmt_wires-in-If-clause-is t c = IfOk-from_err _ _ c.from_residual.ensures.0
