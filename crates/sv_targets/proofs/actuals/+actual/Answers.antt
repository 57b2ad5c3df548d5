use Rattle.std.proofs.Common.{◌+◌, ◌++◌, [], List, map, take, sym, subst, arith}
use Rattle.sv_meaning.specs.Designs.{as_targets, part_faults, index_scope}
use Rattle.sv_meaning.specs.Layouts.{find}
use Rattle.sv_meaning.specs.Meanings.{fixed_faults}
use Rattle.sv_meaning.specs.Targets.{target_of, target_faults}
use Rattle.sv_meaning.specs.Values.{step}
use Rattle.sv_names.specs.Names.{names_are}
use Rattle.sv_targets.specs.declared.targets.TypedTarget.{TypedTarget}
use Rattle.sv_targets.specs.Targets.{AreTargets, actual_list_faults, actual_list_targets}
use Rattle.sv_targets.proofs.Targeting.{targets_ok, targets_err}
use Rattle.sv_targets.proofs.Assignable.{arm_name, arm_concat, actuals_begin, actuals_go, actuals_cause, no_literal, no_paren, no_repeat, no_cast_literal, no_cast_name, no_cast_paren, no_cast_sign, no_system, no_unary, no_binary, no_choose}
use Rattle.sv_targets.proofs.actuals.+actual.Goals as goal

pub part_in-returns-in-Name-clause-is : goal.part_in-returns-in-Name-clause-is
part_in-returns-in-Name-clause-is t c =
    let at = names_are c.args.names.now in
    let index = index_scope c.args.way at in
    let q = c.args.begin in
    let w = c.in-Name.word in
    let steps = map (step index) c.as_slice.result.now in
    arm_name q index at c.args.actual.now w c.in-Name.selects c.as_slice.result.now c.one_target.result c.in-Name.is c.as_slice.ensures
    (c.one_target.ensures.is fixed_faults (target_faults fixed_faults q w (find w.text at) steps) (target_of (find w.text at) steps) c.name_in.ensures)

pub part_in-returns-in-Name-clause-narrow : goal.part_in-returns-in-Name-clause-narrow
part_in-returns-in-Name-clause-narrow t c =
    let at = names_are c.args.names.now in
    let index = index_scope c.args.way at in
    let q = c.args.begin in
    let w = c.in-Name.word in
    let steps = map (step index) c.as_slice.result.now in
    c.one_target.ensures.narrow fixed_faults (target_faults fixed_faults q w (find w.text at) steps) (target_of (find w.text at) steps) c.name_in.ensures

pub part_in-returns-in-Concat-clause-is : goal.part_in-returns-in-Concat-clause-is
part_in-returns-in-Concat-clause-is t c =
    let at = names_are c.args.names.now in
    let index = index_scope c.args.way at in
    let q = c.args.begin in
    let given = c.as_slice-in-Concat.result.now in
    arm_concat q index at c.args.actual.now c.in-Concat.place c.in-Concat.parts given c.braced.result c.in-Concat.is c.as_slice-in-Concat.ensures
    (c.braced.ensures.is fixed_faults (actual_list_faults q index at given) (actual_list_targets index at given) c.parts_in.ensures)

pub part_in-returns-in-Literal-clause-is : goal.part_in-returns-in-Literal-clause-is
part_in-returns-in-Literal-clause-is t c = no_literal c.args.begin (index_scope c.args.way (names_are c.args.names.now)) (names_are c.args.names.now) c.args.actual.now c.in-Literal.field-0 c.not_assignable.result c.in-Literal.is c.not_assignable.ensures

pub part_in-returns-in-Paren-clause-is : goal.part_in-returns-in-Paren-clause-is
part_in-returns-in-Paren-clause-is t c = no_paren c.args.begin (index_scope c.args.way (names_are c.args.names.now)) (names_are c.args.names.now) c.args.actual.now c.in-Paren.field-0 c.in-Paren.field-1 c.not_assignable-in-Paren.result c.in-Paren.is c.not_assignable-in-Paren.ensures

pub part_in-returns-in-Repeat-clause-is : goal.part_in-returns-in-Repeat-clause-is
part_in-returns-in-Repeat-clause-is t c = no_repeat c.args.begin (index_scope c.args.way (names_are c.args.names.now)) (names_are c.args.names.now) c.args.actual.now c.in-Repeat.field-0 c.in-Repeat.field-1 c.in-Repeat.field-2 c.not_assignable-in-Repeat.result c.in-Repeat.is c.not_assignable-in-Repeat.ensures

pub part_in-returns-in-CastLiteral-clause-is : goal.part_in-returns-in-CastLiteral-clause-is
part_in-returns-in-CastLiteral-clause-is t c = no_cast_literal c.args.begin (index_scope c.args.way (names_are c.args.names.now)) (names_are c.args.names.now) c.args.actual.now c.in-CastLiteral.field-0 c.in-CastLiteral.field-1 c.not_assignable-in-CastLiteral.result c.in-CastLiteral.is c.not_assignable-in-CastLiteral.ensures

pub part_in-returns-in-CastName-clause-is : goal.part_in-returns-in-CastName-clause-is
part_in-returns-in-CastName-clause-is t c = no_cast_name c.args.begin (index_scope c.args.way (names_are c.args.names.now)) (names_are c.args.names.now) c.args.actual.now c.in-CastName.field-0 c.in-CastName.field-1 c.not_assignable-in-CastName.result c.in-CastName.is c.not_assignable-in-CastName.ensures

pub part_in-returns-in-CastParen-clause-is : goal.part_in-returns-in-CastParen-clause-is
part_in-returns-in-CastParen-clause-is t c = no_cast_paren c.args.begin (index_scope c.args.way (names_are c.args.names.now)) (names_are c.args.names.now) c.args.actual.now c.in-CastParen.field-0 c.in-CastParen.field-1 c.in-CastParen.field-2 c.not_assignable-in-CastParen.result c.in-CastParen.is c.not_assignable-in-CastParen.ensures

pub part_in-returns-in-CastSign-clause-is : goal.part_in-returns-in-CastSign-clause-is
part_in-returns-in-CastSign-clause-is t c = no_cast_sign c.args.begin (index_scope c.args.way (names_are c.args.names.now)) (names_are c.args.names.now) c.args.actual.now c.in-CastSign.field-0 c.in-CastSign.field-1 c.in-CastSign.field-2 c.not_assignable-in-CastSign.result c.in-CastSign.is c.not_assignable-in-CastSign.ensures

pub part_in-returns-in-System-clause-is : goal.part_in-returns-in-System-clause-is
part_in-returns-in-System-clause-is t c = no_system c.args.begin (index_scope c.args.way (names_are c.args.names.now)) (names_are c.args.names.now) c.args.actual.now c.in-System.field-0 c.in-System.field-1 c.in-System.field-2 c.not_assignable-in-System.result c.in-System.is c.not_assignable-in-System.ensures

pub part_in-returns-in-Unary-clause-is : goal.part_in-returns-in-Unary-clause-is
part_in-returns-in-Unary-clause-is t c = no_unary c.args.begin (index_scope c.args.way (names_are c.args.names.now)) (names_are c.args.names.now) c.args.actual.now c.in-Unary.field-0 c.in-Unary.field-1 c.in-Unary.field-2 c.not_assignable-in-Unary.result c.in-Unary.is c.not_assignable-in-Unary.ensures

pub part_in-returns-in-Binary-clause-is : goal.part_in-returns-in-Binary-clause-is
part_in-returns-in-Binary-clause-is t c = no_binary c.args.begin (index_scope c.args.way (names_are c.args.names.now)) (names_are c.args.names.now) c.args.actual.now c.in-Binary.field-0 c.in-Binary.field-1 c.in-Binary.field-2 c.in-Binary.field-3 c.not_assignable-in-Binary.result c.in-Binary.is c.not_assignable-in-Binary.ensures

pub part_in-returns-in-Choose-clause-is : goal.part_in-returns-in-Choose-clause-is
part_in-returns-in-Choose-clause-is t c = no_choose c.args.begin (index_scope c.args.way (names_are c.args.names.now)) (names_are c.args.names.now) c.args.actual.now c.in-Choose.field-0 c.in-Choose.field-1 c.in-Choose.field-2 c.not_assignable-in-Choose.result c.in-Choose.is c.not_assignable-in-Choose.ensures

pub parts_in-parts-init : goal.parts_in-parts-init
parts_in-parts-init t c =
    let at = names_are c.args.names.now in
    let index = index_scope c.args.way at in
    let q = c.args.begin in
    subst (λ (z : List TypedTarget). AreTargets fixed_faults (actual_list_faults q index at []) (actual_list_targets index at []) z) (sym c.new-all.ensures) (actuals_begin fixed_faults q index at)

pub parts_in-returns-in-Err : goal.parts_in-returns-in-Err
parts_in-returns-in-Err t c =
    let at = names_are c.args.names.now in
    let index = index_scope c.args.way at in
    let q = c.args.begin in
    let all = c.args.parts.now in
    let i = c.parts.part-index in
    let x = c.part-item.result in
    actuals_cause q index at all i x c.in-Err.why c.parts-test.true c.part-item.is
    (targets_err fixed_faults (actual_list_faults q index at (take i all) ++ part_faults q index at x) (actual_list_targets index at (take i all) ++ as_targets index at x) c.appended.result c.in-Err.why c.in-Err.is
    (c.appended.ensures fixed_faults (actual_list_faults q index at (take i all)) (part_faults q index at x) (actual_list_targets index at (take i all)) (as_targets index at x) c.parts.invariant c.part_in.ensures.is))

pub parts_in-parts-preserved : goal.parts_in-parts-preserved
parts_in-parts-preserved t c =
    let at = names_are c.args.names.now in
    let index = index_scope c.args.way at in
    let q = c.args.begin in
    let all = c.args.parts.now in
    let i = c.parts.part-index in
    let x = c.part-item.result in
    targets_ok fixed_faults (actual_list_faults q index at (take (i + 1) all)) (actual_list_targets index at (take (i + 1) all)) c.appended.result c.in-Ok.more c.in-Ok.is
    (actuals_go fixed_faults q index at all i (i + 1) x c.appended.result c.parts-test.true (omega arith) c.part-item.is
    (c.appended.ensures fixed_faults (actual_list_faults q index at (take i all)) (part_faults q index at x) (actual_list_targets index at (take i all)) (as_targets index at x) c.parts.invariant c.part_in.ensures.is))
