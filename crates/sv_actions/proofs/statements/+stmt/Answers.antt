use Rattle.std.proofs.Common.{◌+◌, ◌++◌, Option, map, take, refl, sym, ◌∙◌, subst, arith, Ok}
use Rattle.std.proofs.lemmas.Result.{err_from_is_err_and, IfOk-from_err}
use Rattle.sv_tree.specs.declared.stmts.Stmt.{Stmt}
use Rattle.sv_meaning.specs.Layouts.{Scope, constant_scope}
use Rattle.sv_meaning.specs.Meanings.{free_faults}
use Rattle.sv_meaning.specs.Values.{mean}
use Rattle.sv_meaning.specs.Targets.{targets, lvalue_faults}
use Rattle.sv_meaning.specs.Deeds.{deed, turns, with_index}
use Rattle.sv_names.specs.Names.{names_are, loops_of}
use Rattle.sv_loops.specs.Answers.{Gives}
use Rattle.sv_loops.specs.Steps.{index_is}
use Rattle.sv_loops.proofs.Frames.{entered}
use Rattle.sv_actions.specs.Texts.{target_signals, other_signals, arm_signals, of_each}
use Rattle.sv_actions.specs.Typing.{JudgesDeed}
use Rattle.sv_actions.specs.Listing.{in_order, else_deed, turn_deed, all_arms, rest_of, made_behind, arms_behind, Within}
use Rattle.sv_actions.proofs.Orders.{order_cause}
use Rattle.sv_actions.proofs.Acting.{acted_ok, acted_err}
use Rattle.sv_actions.proofs.Producing.{at_names, arms_at, done_empty, done_block, done_if, done_case, done_for, for_refused, done_assign, done_labels, done_default, arms_begin, arms_next, arms_end, arms_cause, rest_passed, rest_found, rest_absent, order_begin, order_goes, order_ends, arms_ok, arms_err, turn_made, turn_refused, targets_some}
use Rattle.sv_actions.proofs.Rooting.{of_block, of_two, of_case, of_for, of_assign, of_other, of_labels, of_default}
use Rattle.sv_actions.proofs.Aiming.{within_at, within_as, within_left, within_right, within_one, within_turn, aims_of, arms_aim_of, targets_aim}
use Rattle.sv_actions.proofs.statements.+stmt.Goals as goal

-- ---- statements

pub typed_stmt-returns-in-Empty-clause-is : goal.typed_stmt-returns-in-Empty-clause-is
typed_stmt-returns-in-Empty-clause-is t c = done_empty (names_are c.args.names.now) c.args.stmt.now c.args.made (Ok c.nothing.result) c.in-Empty.is c.nothing.ensures.is

pub typed_stmt-returns-in-Block-clause-is : goal.typed_stmt-returns-in-Block-clause-is
typed_stmt-returns-in-Block-clause-is t c =
    done_block (names_are c.args.names.now) c.args.stmt.now c.in-Block.field-0 c.in-Block.field-1 c.in-Block.all c.as_slice.result.now c.in-Block.field-3 c.args.made c.typed_all.result c.in-Block.is c.as_slice.ensures c.typed_all.ensures.is

pub typed_stmt-returns-in-If-clause-is : goal.typed_stmt-returns-in-If-clause-is
typed_stmt-returns-in-If-clause-is t c =
    let at = names_are c.args.names.now in
    done_if at c.args.stmt.now c.in-If.field-0 c.in-If.condition c.in-If.body c.get.result.now c.in-If.other c.args.made c.chosen.result c.in-If.is c.get.ensures
    (c.chosen.ensures.is (mean at c.in-If.condition) (deed c.get.result.now at) (else_deed at c.in-If.other) c.args.made c.typed-condition.ensures c.typed_stmt-first.ensures.is
    (at_names (λ (s : Scope). else_deed s c.in-If.other) c.args.names.now c.typed_stmt-first.new.names c.made_behind.result (made_behind c.typed_stmt-first.result) c.typed_else-second.result
    c.typed_stmt-first.ensures.frames c.typed_stmt-first.ensures.loops c.made_behind.ensures c.typed_else-second.ensures.is))

pub typed_stmt-returns-in-If-clause-frames : goal.typed_stmt-returns-in-If-clause-frames
typed_stmt-returns-in-If-clause-frames t c = c.typed_else-second.ensures.frames ∙ c.typed_stmt-first.ensures.frames

pub typed_stmt-returns-in-If-clause-loops : goal.typed_stmt-returns-in-If-clause-loops
typed_stmt-returns-in-If-clause-loops t c = c.typed_else-second.ensures.loops ∙ c.typed_stmt-first.ensures.loops

pub typed_stmt-returns-in-Case-clause-is : goal.typed_stmt-returns-in-Case-clause-is
typed_stmt-returns-in-Case-clause-is t c =
    let at = names_are c.args.names.now in
    let one = c.as_slice-in-Case.result.now in
    let two = c.as_slice-in-Case-2.result.now in
    done_case at c.args.stmt.now c.in-Case.field-0 c.in-Case.word c.in-Case.value c.in-Case.all one two c.is_masked.result c.args.made c.matched.result c.in-Case.is c.as_slice-in-Case.ensures c.as_slice-in-Case-2.ensures c.is_masked.ensures
    (c.matched.ensures.is (mean at c.in-Case.value) (all_arms at one) (rest_of at two) c.args.made c.typed-value.ensures c.typed_arms-arms.ensures.is
    (at_names (λ (s : Scope). rest_of s two) c.args.names.now c.typed_arms-arms.new.names c.arms_behind.result (arms_behind c.typed_arms-arms.result) c.typed_rest-rest.result
    c.typed_arms-arms.ensures.frames c.typed_arms-arms.ensures.loops c.arms_behind.ensures c.typed_rest-rest.ensures.is))

pub typed_stmt-returns-in-Case-clause-frames : goal.typed_stmt-returns-in-Case-clause-frames
typed_stmt-returns-in-Case-clause-frames t c = c.typed_rest-rest.ensures.frames ∙ c.typed_arms-arms.ensures.frames

pub typed_stmt-returns-in-Case-clause-loops : goal.typed_stmt-returns-in-Case-clause-loops
typed_stmt-returns-in-Case-clause-loops t c = c.typed_rest-rest.ensures.loops ∙ c.typed_arms-arms.ensures.loops

pub typed_stmt-returns-in-Ok-clause-is : goal.typed_stmt-returns-in-Ok-clause-is
typed_stmt-returns-in-Ok-clause-is t c =
    let at = names_are c.args.names.now in
    let v = c.in-For.variable in
    let given = c.get-in-Ok.result.now in
    let slice = c.as_slice-in-Ok.result.now in
    done_for at c.args.stmt.now c.in-For.place c.in-For.field-1 v c.in-For.start c.in-For.test c.in-For.next c.in-For.body given c.in-Ok.values slice c.args.made c.typed_turns.result c.in-For.is c.get-in-Ok.ensures c.as_slice-in-Ok.ensures
    (subst (Gives (turns c.in-For.place (constant_scope at) v.text c.in-For.start c.in-For.test c.in-For.next)) c.in-Ok.is c.turns.ensures.is)
    (at_names (λ (s : Scope). in_order (turn_deed s c.in-For.place v.text given) slice) c.args.names.now c.turns.new.names c.args.made c.args.made c.typed_turns.result
    c.turns.ensures.frames c.turns.ensures.loops refl c.typed_turns.ensures.is)

pub typed_stmt-returns-in-Ok-clause-frames : goal.typed_stmt-returns-in-Ok-clause-frames
typed_stmt-returns-in-Ok-clause-frames t c = c.typed_turns.ensures.frames ∙ c.turns.ensures.frames

pub typed_stmt-returns-in-Ok-clause-loops : goal.typed_stmt-returns-in-Ok-clause-loops
typed_stmt-returns-in-Ok-clause-loops t c = c.typed_turns.ensures.loops ∙ c.turns.ensures.loops

pub typed_stmt-returns-in-Err-clause-is : goal.typed_stmt-returns-in-Err-clause-is
typed_stmt-returns-in-Err-clause-is t c =
    let at = names_are c.args.names.now in
    let v = c.in-For.variable in
    for_refused at c.args.stmt.now c.in-For.place c.in-For.field-1 v c.in-For.start c.in-For.test c.in-For.next c.in-For.body c.args.made c.in-Err.why c.in-For.is
    (subst (Gives (turns c.in-For.place (constant_scope at) v.text c.in-For.start c.in-For.test c.in-For.next)) c.in-Err.is c.turns.ensures.is)

pub typed_stmt-returns-in-Err-clause-loops : goal.typed_stmt-returns-in-Err-clause-loops
typed_stmt-returns-in-Err-clause-loops t c = c.turns.ensures.loops

pub typed_stmt-returns-in-Assign-clause-is : goal.typed_stmt-returns-in-Assign-clause-is
typed_stmt-returns-in-Assign-clause-is t c =
    let at = names_are c.args.names.now in
    let to = c.in-Assign.target in
    done_assign at c.args.stmt.now to c.in-Assign.field-1 c.in-Assign.field-2 c.in-Assign.value c.args.made c.assigned.result c.in-Assign.is
    (c.assigned.ensures.is (targets at at to) (lvalue_faults free_faults at at to) (mean at c.in-Assign.value) c.typed_targets.ensures.is c.typed_targets.ensures.narrow (targets_some free_faults at at to c.typed_targets.result c.typed_targets.ensures.is) c.typed.ensures)

-- ---- lists of statements

pub typed_all-parts-init : goal.typed_all-parts-init
typed_all-parts-init t c = record { frames = refl; loops = refl; aims = λ named w. c.nothing-found.ensures.aims named; done = order_begin (λ (x : Stmt). deed x (names_are c.args.names.now)) c.args.made c.nothing-found.result c.nothing-found.ensures.is }

pub typed_all-returns-in-Err-clause-is : goal.typed_all-returns-in-Err-clause-is
typed_all-returns-in-Err-clause-is t c =
    let at = names_are c.args.names.now in
    let f = λ (x : Stmt). deed x at in
    let all = c.args.all.now in
    let i = c.parts.part-index in
    let x = c.part-item.result in
    order_cause f all (i + 1) c.args.made c.in-Err.why (acted_err (in_order f (take (i + 1) all)) c.args.made c.followed.result c.in-Err.why c.in-Err.is
    (order_goes f all i x c.args.made c.followed.result c.parts-test.true c.part-item.is (c.followed.ensures.is (in_order f (take i all)) (f x) c.args.made c.parts.invariant.done
    (at_names (deed x) c.args.names.now c.parts.names c.parts.found.made c.parts.found.made c.typed_stmt-next.result c.parts.invariant.frames c.parts.invariant.loops refl c.typed_stmt-next.ensures.is))))

pub typed_all-returns-in-Err-clause-frames : goal.typed_all-returns-in-Err-clause-frames
typed_all-returns-in-Err-clause-frames t c = c.typed_stmt-next.ensures.frames ∙ c.parts.invariant.frames

pub typed_all-returns-in-Err-clause-loops : goal.typed_all-returns-in-Err-clause-loops
typed_all-returns-in-Err-clause-loops t c = c.typed_stmt-next.ensures.loops ∙ c.parts.invariant.loops

pub typed_all-parts-preserved : goal.typed_all-parts-preserved
typed_all-parts-preserved t c =
    let at = names_are c.args.names.now in
    let f = λ (x : Stmt). deed x at in
    let all = c.args.all.now in
    let i = c.parts.part-index in
    let x = c.part-item.result in
    record {
      frames = c.typed_stmt-next.ensures.frames ∙ c.parts.invariant.frames;
      loops = c.typed_stmt-next.ensures.loops ∙ c.parts.invariant.loops;
      aims = λ named w.
          aims_of named c.followed.result c.in-Ok.more c.in-Ok.is
          (c.followed.ensures.aims named (c.parts.invariant.aims named w)
          (c.typed_stmt-next.ensures.aims named (within_at (λ (s : Scope). target_signals s x) c.args.names.now c.parts.names named c.parts.invariant.frames c.parts.invariant.loops (within_one (target_signals at) all i x named c.parts-test.true c.part-item.is w))));
      done = acted_ok (in_order f (take (i + 1) all)) c.args.made c.followed.result c.in-Ok.more c.in-Ok.is
          (order_goes f all i x c.args.made c.followed.result c.parts-test.true c.part-item.is (c.followed.ensures.is (in_order f (take i all)) (f x) c.args.made c.parts.invariant.done
          (at_names (deed x) c.args.names.now c.parts.names c.parts.found.made c.parts.found.made c.typed_stmt-next.result c.parts.invariant.frames c.parts.invariant.loops refl c.typed_stmt-next.ensures.is)));
    }

pub typed_all-returns-clause-is : goal.typed_all-returns-clause-is
typed_all-returns-clause-is t c = order_ends (λ (x : Stmt). deed x (names_are c.args.names.now)) c.args.all.now c.parts.part-index c.args.made c.parts.found (omega arith) c.parts.invariant.done

pub typed_all-returns-clause-frames : goal.typed_all-returns-clause-frames
typed_all-returns-clause-frames t c = c.parts.invariant.frames

pub typed_all-returns-clause-loops : goal.typed_all-returns-clause-loops
typed_all-returns-clause-loops t c = c.parts.invariant.loops

-- ---- arms

pub typed_arms-arms-init : goal.typed_arms-arms-init
typed_arms-arms-init t c = record { frames = refl; loops = refl; aim = λ named w. c.no_arms-found.ensures.aim named; done = arms_begin (names_are c.args.names.now) c.args.made c.no_arms-found.result c.no_arms-found.ensures.is }

pub typed_arms-returns-in-Err-clause-is : goal.typed_arms-returns-in-Err-clause-is
typed_arms-returns-in-Err-clause-is t c =
    let at = names_are c.args.names.now in
    let all = c.args.all.now in
    let i = c.arms.arm-index in
    let x = c.arm-item.result in
    arms_cause at all (i + 1) c.args.made c.in-Err.why (arms_err (all_arms at (take (i + 1) all)) c.args.made c.typed_arm.result c.in-Err.why c.in-Err.is
    (arms_next at all i x c.args.made c.typed_arm.result c.arms-test.true c.arm-item.is
    (arms_at (all_arms at (take i all)) x c.args.names.now c.arms.names c.args.made c.typed_arm.result c.arms.invariant.frames c.arms.invariant.loops (c.typed_arm.ensures.is (all_arms at (take i all)) c.args.made c.arms.invariant.done))))

pub typed_arms-returns-in-Err-clause-frames : goal.typed_arms-returns-in-Err-clause-frames
typed_arms-returns-in-Err-clause-frames t c = c.typed_arm.ensures.frames ∙ c.arms.invariant.frames

pub typed_arms-returns-in-Err-clause-loops : goal.typed_arms-returns-in-Err-clause-loops
typed_arms-returns-in-Err-clause-loops t c = c.typed_arm.ensures.loops ∙ c.arms.invariant.loops

pub typed_arms-arms-preserved : goal.typed_arms-arms-preserved
typed_arms-arms-preserved t c =
    let at = names_are c.args.names.now in
    let all = c.args.all.now in
    let i = c.arms.arm-index in
    let x = c.arm-item.result in
    record {
      frames = c.typed_arm.ensures.frames ∙ c.arms.invariant.frames;
      loops = c.typed_arm.ensures.loops ∙ c.arms.invariant.loops;
      aim = λ named w.
          arms_aim_of named c.typed_arm.result c.in-Ok.more c.in-Ok.is
          (c.typed_arm.ensures.aim named (c.arms.invariant.aim named w)
          (within_at (λ (s : Scope). arm_signals s x) c.args.names.now c.arms.names named c.arms.invariant.frames c.arms.invariant.loops (within_one (arm_signals at) all i x named c.arms-test.true c.arm-item.is w)));
      done = arms_ok (all_arms at (take (i + 1) all)) c.args.made c.typed_arm.result c.in-Ok.more c.in-Ok.is
          (arms_next at all i x c.args.made c.typed_arm.result c.arms-test.true c.arm-item.is
          (arms_at (all_arms at (take i all)) x c.args.names.now c.arms.names c.args.made c.typed_arm.result c.arms.invariant.frames c.arms.invariant.loops (c.typed_arm.ensures.is (all_arms at (take i all)) c.args.made c.arms.invariant.done)));
    }

pub typed_arms-returns-clause-is : goal.typed_arms-returns-clause-is
typed_arms-returns-clause-is t c = arms_end (names_are c.args.names.now) c.args.all.now c.arms.arm-index c.args.made c.arms.found (omega arith) c.arms.invariant.done

pub typed_arms-returns-clause-frames : goal.typed_arms-returns-clause-frames
typed_arms-returns-clause-frames t c = c.arms.invariant.frames

pub typed_arms-returns-clause-loops : goal.typed_arms-returns-clause-loops
typed_arms-returns-clause-loops t c = c.arms.invariant.loops

pub typed_arm-returns-in-Labels-clause-is : goal.typed_arm-returns-in-Labels-clause-is
typed_arm-returns-in-Labels-clause-is t c = λ arms made h.
    let at = names_are c.args.names.now in
    done_labels at c.args.arm.now arms c.in-Labels.labels c.as_slice.result.now c.in-Labels.body c.get.result.now made c.with_arm.result c.in-Labels.is c.as_slice.ensures c.get.ensures
    (c.with_arm.ensures.is arms (map (mean at) c.as_slice.result.now) (deed c.get.result.now at) made h c.typed_labels-labels.ensures c.typed_stmt-body.ensures.is)

pub typed_arm-returns-in-Default-clause-is : goal.typed_arm-returns-in-Default-clause-is
typed_arm-returns-in-Default-clause-is t c = λ arms made h. done_default (names_are c.args.names.now) c.args.arm.now arms c.in-Default.field-0 c.in-Default.field-1 made c.args.found c.in-Default.is h

-- ---- the default

pub typed_rest-arms-init : goal.typed_rest-arms-init
typed_rest-arms-init t c = record { frames = refl; loops = refl; rest = refl }

pub typed_rest-returns-in-Default-clause-is : goal.typed_rest-returns-in-Default-clause-is
typed_rest-returns-in-Default-clause-is t c =
    let at = names_are c.args.names.now in
    rest_found at c.args.all.now c.arms.arm-index c.arm-item.result c.in-Default.field-0 c.in-Default.body c.get.result.now c.args.made c.typed_stmt.result c.arms-test.true c.arm-item.is c.in-Default.is c.get.ensures c.arms.invariant.rest
    (at_names (deed c.get.result.now) c.args.names.now c.arms.names c.args.made c.args.made c.typed_stmt.result c.arms.invariant.frames c.arms.invariant.loops refl c.typed_stmt.ensures.is)

pub typed_rest-returns-in-Default-clause-frames : goal.typed_rest-returns-in-Default-clause-frames
typed_rest-returns-in-Default-clause-frames t c = c.typed_stmt.ensures.frames ∙ c.arms.invariant.frames

pub typed_rest-returns-in-Default-clause-loops : goal.typed_rest-returns-in-Default-clause-loops
typed_rest-returns-in-Default-clause-loops t c = c.typed_stmt.ensures.loops ∙ c.arms.invariant.loops

pub typed_rest-arms-preserved : goal.typed_rest-arms-preserved
typed_rest-arms-preserved t c =
    record {
      frames = c.arms.invariant.frames;
      loops = c.arms.invariant.loops;
      rest = rest_passed (names_are c.args.names.now) c.args.all.now c.arms.arm-index c.arm-item.result c.in-Labels.field-0 c.in-Labels.field-1 c.arms-test.true c.arm-item.is c.in-Labels.is c.arms.invariant.rest;
    }

pub typed_rest-returns-clause-is : goal.typed_rest-returns-clause-is
typed_rest-returns-clause-is t c = rest_absent (names_are c.args.names.now) c.args.all.now c.arms.arm-index c.args.made c.nothing.result (omega arith) c.arms.invariant.rest c.nothing.ensures.is

pub typed_rest-returns-clause-frames : goal.typed_rest-returns-clause-frames
typed_rest-returns-clause-frames t c = c.arms.invariant.frames

pub typed_rest-returns-clause-loops : goal.typed_rest-returns-clause-loops
typed_rest-returns-clause-loops t c = c.arms.invariant.loops

-- ---- turns

pub typed_turns-turns-init : goal.typed_turns-turns-init
typed_turns-turns-init t c = record { frames = refl; loops = refl; aims = λ named w. c.nothing-found.ensures.aims named; done = order_begin (turn_deed (names_are c.args.names.now) c.args.place c.args.variable.now.text c.args.body.now) c.args.made c.nothing-found.result c.nothing-found.ensures.is }

pub typed_turns-returns-in-Err-clause-is : goal.typed_turns-returns-in-Err-clause-is
typed_turns-returns-in-Err-clause-is t c =
    let f = turn_deed (names_are c.args.names.now) c.args.place c.args.variable.now.text c.args.body.now in
    let all = c.args.values.now in
    let i = c.turns.bits-index in
    let x = c.bits-item.result in
    order_cause f all (i + 1) c.args.made c.in-Err.why (acted_err (in_order f (take (i + 1) all)) c.args.made c.followed.result c.in-Err.why c.in-Err.is
    (order_goes f all i x c.args.made c.followed.result c.turns-test.true c.bits-item.is (c.followed.ensures.is (in_order f (take i all)) (f x) c.args.made c.turns.invariant.done
    (at_names (λ (at : Scope). turn_deed at c.args.place c.args.variable.now.text c.args.body.now x) c.args.names.now c.turns.names c.turns.found.made c.turns.found.made c.typed_turn-next.result c.turns.invariant.frames c.turns.invariant.loops refl c.typed_turn-next.ensures.is))))

pub typed_turns-returns-in-Err-clause-frames : goal.typed_turns-returns-in-Err-clause-frames
typed_turns-returns-in-Err-clause-frames t c = c.typed_turn-next.ensures.frames ∙ c.turns.invariant.frames

pub typed_turns-returns-in-Err-clause-loops : goal.typed_turns-returns-in-Err-clause-loops
typed_turns-returns-in-Err-clause-loops t c = c.typed_turn-next.ensures.loops ∙ c.turns.invariant.loops

pub typed_turns-turns-preserved : goal.typed_turns-turns-preserved
typed_turns-turns-preserved t c =
    let f = turn_deed (names_are c.args.names.now) c.args.place c.args.variable.now.text c.args.body.now in
    let all = c.args.values.now in
    let i = c.turns.bits-index in
    let x = c.bits-item.result in
    record {
      frames = c.typed_turn-next.ensures.frames ∙ c.turns.invariant.frames;
      loops = c.typed_turn-next.ensures.loops ∙ c.turns.invariant.loops;
      aims = λ named w.
          aims_of named c.followed.result c.in-Ok.more c.in-Ok.is
          (c.followed.ensures.aims named (c.turns.invariant.aims named w)
          (c.typed_turn-next.ensures.aims named (within_at (λ (s : Scope). target_signals s c.args.body.now) c.args.names.now c.turns.names named c.turns.invariant.frames c.turns.invariant.loops w)));
      done = acted_ok (in_order f (take (i + 1) all)) c.args.made c.followed.result c.in-Ok.more c.in-Ok.is
          (order_goes f all i x c.args.made c.followed.result c.turns-test.true c.bits-item.is (c.followed.ensures.is (in_order f (take i all)) (f x) c.args.made c.turns.invariant.done
          (at_names (λ (at : Scope). turn_deed at c.args.place c.args.variable.now.text c.args.body.now x) c.args.names.now c.turns.names c.turns.found.made c.turns.found.made c.typed_turn-next.result c.turns.invariant.frames c.turns.invariant.loops refl c.typed_turn-next.ensures.is)));
    }

pub typed_turns-returns-clause-is : goal.typed_turns-returns-clause-is
typed_turns-returns-clause-is t c =
    order_ends (turn_deed (names_are c.args.names.now) c.args.place c.args.variable.now.text c.args.body.now) c.args.values.now c.turns.bits-index c.args.made c.turns.found (omega arith) c.turns.invariant.done

pub typed_turns-returns-clause-frames : goal.typed_turns-returns-clause-frames
typed_turns-returns-clause-frames t c = c.turns.invariant.frames

pub typed_turns-returns-clause-loops : goal.typed_turns-returns-clause-loops
typed_turns-returns-clause-loops t c = c.turns.invariant.loops

pub typed_turn-returns-in_err-one_more-clause-is : goal.typed_turn-returns-in_err-one_more-clause-is
typed_turn-returns-in_err-one_more-clause-is t c =
    let p = err_from_is_err_and c.from_residual.result c.from_residual.ensures.1 in
    rw (p.1, p.2) (turn_refused c.args.place (deed c.args.body.now (with_index (names_are c.args.names.now) c.args.variable.now.text c.args.bits)) c.args.made c.in_err-one_more.field-0.0 c.in_err-one_more.ensures)

pub typed_turn-returns-clause-is : goal.typed_turn-returns-clause-is
typed_turn-returns-clause-is t c =
    turn_made c.args.place (deed c.args.body.now (with_index (names_are c.args.names.now) c.args.variable.now.text c.args.bits)) c.args.made (c.args.made + 1) c.typed_stmt-acted.result c.in_ok-one_more.ensures refl
    (subst (λ (at : Scope). JudgesDeed (deed c.args.body.now at) (c.args.made + 1) c.typed_stmt-acted.result) (entered c.args.names.now c.enter.new.names c.args.variable.now.text c.args.bits c.enter.ensures.frames c.in_ok-enter.ensures.loops) c.typed_stmt-acted.ensures.is)

pub typed_turn-returns-clause-frames : goal.typed_turn-returns-clause-frames
typed_turn-returns-clause-frames t c = c.leave.ensures.frames ∙ c.typed_stmt-acted.ensures.frames ∙ c.enter.ensures.frames

pub typed_turn-returns-clause-loops : goal.typed_turn-returns-clause-loops
typed_turn-returns-clause-loops t c = c.leave.ensures.loops (loops_of c.args.names.now) (index_is c.args.variable.now.text c.args.bits) (c.typed_stmt-acted.ensures.loops ∙ c.in_ok-enter.ensures.loops)

-- ---- the signals that targets name

pub typed_stmt-returns-in-Empty-clause-aims : goal.typed_stmt-returns-in-Empty-clause-aims
typed_stmt-returns-in-Empty-clause-aims t c = λ named w. c.nothing.ensures.aims named

pub typed_stmt-returns-in-Block-clause-aims : goal.typed_stmt-returns-in-Block-clause-aims
typed_stmt-returns-in-Block-clause-aims t c = λ named w.
    c.typed_all.ensures.aims named (within_as _ _ named (of_block (names_are c.args.names.now) c.args.stmt.now c.in-Block.field-0 c.in-Block.field-1 c.in-Block.all c.as_slice.result.now c.in-Block.field-3 c.in-Block.is c.as_slice.ensures) w)

pub typed_stmt-returns-in-If-clause-aims : goal.typed_stmt-returns-in-If-clause-aims
typed_stmt-returns-in-If-clause-aims t c = λ named w.
    let at = names_are c.args.names.now in
    let v : Within (target_signals at c.get.result.now ++ other_signals at c.in-If.other) named =
    within_as _ _ named (of_two at c.args.stmt.now c.in-If.field-0 c.in-If.condition c.in-If.body c.get.result.now c.in-If.other c.in-If.is c.get.ensures) w in
    c.chosen.ensures.aims named (c.typed_stmt-first.ensures.aims named (within_left (target_signals at c.get.result.now) (other_signals at c.in-If.other) named v))
    (c.typed_else-second.ensures.aims named
    (within_at (λ (s : Scope). other_signals s c.in-If.other) c.args.names.now c.typed_stmt-first.new.names named c.typed_stmt-first.ensures.frames c.typed_stmt-first.ensures.loops
    (within_right (target_signals at c.get.result.now) (other_signals at c.in-If.other) named v)))

pub typed_stmt-returns-in-Case-clause-aims : goal.typed_stmt-returns-in-Case-clause-aims
typed_stmt-returns-in-Case-clause-aims t c = λ named w.
    let at = names_are c.args.names.now in
    let one = c.as_slice-in-Case.result.now in
    let two = c.as_slice-in-Case-2.result.now in
    c.matched.ensures.aims named
    (c.typed_arms-arms.ensures.aim named (within_as _ _ named (of_case at c.args.stmt.now c.in-Case.field-0 c.in-Case.word c.in-Case.value c.in-Case.all one c.in-Case.is c.as_slice-in-Case.ensures) w))
    (c.typed_rest-rest.ensures.aims named
    (within_at (λ (s : Scope). of_each (arm_signals s) two) c.args.names.now c.typed_arms-arms.new.names named c.typed_arms-arms.ensures.frames c.typed_arms-arms.ensures.loops
    (within_as _ _ named (of_case at c.args.stmt.now c.in-Case.field-0 c.in-Case.word c.in-Case.value c.in-Case.all two c.in-Case.is c.as_slice-in-Case-2.ensures) w)))

pub typed_stmt-returns-in-Ok-clause-aims : goal.typed_stmt-returns-in-Ok-clause-aims
typed_stmt-returns-in-Ok-clause-aims t c = λ named w.
    let given = c.get-in-Ok.result.now in
    c.typed_turns.ensures.aims named
    (within_at (λ (s : Scope). target_signals s given) c.args.names.now c.turns.new.names named c.turns.ensures.frames c.turns.ensures.loops
    (within_as _ _ named
    (of_for (names_are c.args.names.now) c.args.stmt.now c.in-For.place c.in-For.field-1 c.in-For.variable c.in-For.start c.in-For.test c.in-For.next c.in-For.body given c.in-For.is c.get-in-Ok.ensures) w))

pub typed_stmt-returns-in-Err-clause-aims : goal.typed_stmt-returns-in-Err-clause-aims
typed_stmt-returns-in-Err-clause-aims t c = λ named w. tt

pub typed_stmt-returns-in-Assign-clause-aims : goal.typed_stmt-returns-in-Assign-clause-aims
typed_stmt-returns-in-Assign-clause-aims t c = λ named w.
    let at = names_are c.args.names.now in
    let to = c.in-Assign.target in
    c.assigned.ensures.aims named
    (targets_aim free_faults at at named to c.typed_targets.result c.typed_targets.ensures.is (within_as _ _ named (of_assign at c.args.stmt.now to c.in-Assign.field-1 c.in-Assign.field-2 c.in-Assign.value c.in-Assign.is) w))

pub typed_all-returns-in-Err-clause-aims : goal.typed_all-returns-in-Err-clause-aims
typed_all-returns-in-Err-clause-aims t c = λ named w. tt

pub typed_all-returns-clause-aims : goal.typed_all-returns-clause-aims
typed_all-returns-clause-aims t c = c.parts.invariant.aims

pub typed_else-returns-in-Some-clause-aims : goal.typed_else-returns-in-Some-clause-aims
typed_else-returns-in-Some-clause-aims t c = λ named w. c.typed_stmt.ensures.aims named (within_as _ _ named (of_other (names_are c.args.names.now) c.args.other.now _ _ c.in-Some.is c.get.ensures) w)

pub typed_else-returns-in-None-clause-aims : goal.typed_else-returns-in-None-clause-aims
typed_else-returns-in-None-clause-aims t c = λ named w. c.nothing.ensures.aims named

pub typed_arms-returns-in-Err-clause-aim : goal.typed_arms-returns-in-Err-clause-aim
typed_arms-returns-in-Err-clause-aim t c = λ named w. tt

pub typed_arms-returns-clause-aim : goal.typed_arms-returns-clause-aim
typed_arms-returns-clause-aim t c = c.arms.invariant.aim

pub typed_arm-returns-in-Labels-clause-aim : goal.typed_arm-returns-in-Labels-clause-aim
typed_arm-returns-in-Labels-clause-aim t c = λ named h w.
    c.with_arm.ensures.aim named h (c.typed_stmt-body.ensures.aims named (within_as _ _ named (of_labels (names_are c.args.names.now) c.args.arm.now c.in-Labels.labels c.in-Labels.body c.get.result.now c.in-Labels.is c.get.ensures) w))

pub typed_arm-returns-in-Default-clause-aim : goal.typed_arm-returns-in-Default-clause-aim
typed_arm-returns-in-Default-clause-aim t c = λ named h w. h

pub typed_rest-returns-in-Default-clause-aims : goal.typed_rest-returns-in-Default-clause-aims
typed_rest-returns-in-Default-clause-aims t c = λ named w.
    let at = names_are c.args.names.now in
    let x = c.arm-item.result in
    c.typed_stmt.ensures.aims named
    (within_at (λ (s : Scope). target_signals s c.get.result.now) c.args.names.now c.arms.names named c.arms.invariant.frames c.arms.invariant.loops
    (within_as _ _ named (of_default at x c.in-Default.field-0 c.in-Default.body c.get.result.now c.in-Default.is c.get.ensures) (within_one (arm_signals at) c.args.all.now c.arms.arm-index x named c.arms-test.true c.arm-item.is w)))

pub typed_rest-returns-clause-aims : goal.typed_rest-returns-clause-aims
typed_rest-returns-clause-aims t c = λ named w. c.nothing.ensures.aims named

pub typed_turns-returns-in-Err-clause-aims : goal.typed_turns-returns-in-Err-clause-aims
typed_turns-returns-in-Err-clause-aims t c = λ named w. tt

pub typed_turns-returns-clause-aims : goal.typed_turns-returns-clause-aims
typed_turns-returns-clause-aims t c = c.turns.invariant.aims

pub typed_turn-returns-in_err-one_more-clause-aims : goal.typed_turn-returns-in_err-one_more-clause-aims
typed_turn-returns-in_err-one_more-clause-aims t c = λ named w. IfOk-from_err _ _ c.from_residual.ensures.0

pub typed_turn-returns-in_err-enter-clause-aims : goal.typed_turn-returns-in_err-enter-clause-aims
typed_turn-returns-in_err-enter-clause-aims t c = λ named w. IfOk-from_err _ _ c.from_residual-in_err-enter.ensures.0

pub typed_turn-returns-clause-aims : goal.typed_turn-returns-clause-aims
typed_turn-returns-clause-aims t c = λ named w.
    c.typed_stmt-acted.ensures.aims named
    (within_turn (names_are c.args.names.now) (names_are c.enter.new.names) c.args.variable.now.text c.args.bits c.args.body.now named
    (entered c.args.names.now c.enter.new.names c.args.variable.now.text c.args.bits c.enter.ensures.frames c.in_ok-enter.ensures.loops) w)

-- ---- an `else`, and what stays

pub typed_else-returns-in-Some-clause-is : goal.typed_else-returns-in-Some-clause-is
typed_else-returns-in-Some-clause-is t c =
    let at = names_are c.args.names.now in
    subst (λ (o : Option Stmt). JudgesDeed (else_deed at o) c.args.made c.typed_stmt.result) (sym c.in-Some.is)
    (subst (λ (b : Stmt). JudgesDeed (deed b at) c.args.made c.typed_stmt.result) c.get.ensures c.typed_stmt.ensures.is)

pub typed_else-returns-in-None-clause-is : goal.typed_else-returns-in-None-clause-is
typed_else-returns-in-None-clause-is t c =
    subst (λ (o : Option Stmt). JudgesDeed (else_deed (names_are c.args.names.now) o) c.args.made (Ok c.nothing.result)) (sym c.in-None.is) c.nothing.ensures.is

pub typed_else-returns-in-Some-clause-frames : goal.typed_else-returns-in-Some-clause-frames
typed_else-returns-in-Some-clause-frames t c = c.typed_stmt.ensures.frames

pub typed_arm-returns-in-Labels-clause-frames : goal.typed_arm-returns-in-Labels-clause-frames
typed_arm-returns-in-Labels-clause-frames t c = c.typed_stmt-body.ensures.frames

pub typed_stmt-returns-in-Block-clause-frames : goal.typed_stmt-returns-in-Block-clause-frames
typed_stmt-returns-in-Block-clause-frames t c = c.typed_all.ensures.frames

pub typed_turn-returns-in_err-enter-clause-frames : goal.typed_turn-returns-in_err-enter-clause-frames
typed_turn-returns-in_err-enter-clause-frames t c = c.enter.ensures.frames

pub typed_else-returns-in-Some-clause-loops : goal.typed_else-returns-in-Some-clause-loops
typed_else-returns-in-Some-clause-loops t c = c.typed_stmt.ensures.loops

pub typed_arm-returns-in-Labels-clause-loops : goal.typed_arm-returns-in-Labels-clause-loops
typed_arm-returns-in-Labels-clause-loops t c = c.typed_stmt-body.ensures.loops

pub typed_stmt-returns-in-Block-clause-loops : goal.typed_stmt-returns-in-Block-clause-loops
typed_stmt-returns-in-Block-clause-loops t c = c.typed_all.ensures.loops

pub typed_turn-returns-in_err-enter-clause-loops : goal.typed_turn-returns-in_err-enter-clause-loops
typed_turn-returns-in_err-enter-clause-loops t c = c.in_err-enter.ensures.err

pub typed_stmt-returns-in-Err-clause-frames : goal.typed_stmt-returns-in-Err-clause-frames
typed_stmt-returns-in-Err-clause-frames t c = c.turns.ensures.frames
