use Rattle.std.proofs.Common.{◌+◌, ◌++◌, [], List, map, take, sym, subst, arith}
use Rattle.sv_meaning.specs.Layouts.{find}
use Rattle.sv_meaning.specs.Targets.{target_of, target_faults, targets, lvalue_faults}
use Rattle.sv_meaning.specs.Values.{step}
use Rattle.sv_names.specs.Names.{names_are}
use Rattle.sv_typing.specs.Picks.{rule_faults, rule_scope}
use Rattle.sv_targets.specs.declared.targets.TypedTarget.{TypedTarget}
use Rattle.sv_targets.specs.Targets.{AreTargets, all_faults, all_targets}
use Rattle.sv_targets.proofs.Targeting.{arm_name, arm_concat, targets_begin, targets_go, targets_cause, targets_ok, targets_err}
use Rattle.sv_targets.proofs.targets.+target.Goals as goal

pub typed_targets-returns-in-Name-clause-is : goal.typed_targets-returns-in-Name-clause-is
typed_targets-returns-in-Name-clause-is t c =
    let at = names_are c.args.names.now in
    let index = rule_scope c.args.rule at in
    let judge = rule_faults c.args.rule in
    let w = c.in-Name.word in
    let steps = map (step index) c.as_slice.result.now in
    arm_name judge index at c.args.target.now w c.in-Name.selects c.as_slice.result.now c.one_target.result c.in-Name.is c.as_slice.ensures
    (c.one_target.ensures.is judge (target_faults judge w.place w (find w.text at) steps) (target_of (find w.text at) steps) c.named_target.ensures)

pub typed_targets-returns-in-Name-clause-narrow : goal.typed_targets-returns-in-Name-clause-narrow
typed_targets-returns-in-Name-clause-narrow t c =
    let at = names_are c.args.names.now in
    let index = rule_scope c.args.rule at in
    let judge = rule_faults c.args.rule in
    let w = c.in-Name.word in
    let steps = map (step index) c.as_slice.result.now in
    c.one_target.ensures.narrow judge (target_faults judge w.place w (find w.text at) steps) (target_of (find w.text at) steps) c.named_target.ensures

pub typed_targets-returns-in-Concat-clause-is : goal.typed_targets-returns-in-Concat-clause-is
typed_targets-returns-in-Concat-clause-is t c =
    let at = names_are c.args.names.now in
    let index = rule_scope c.args.rule at in
    let judge = rule_faults c.args.rule in
    let given = c.as_slice-in-Concat.result.now in
    arm_concat judge index at c.args.target.now c.in-Concat.place c.in-Concat.parts given c.braced.result c.in-Concat.is c.as_slice-in-Concat.ensures
    (c.braced.ensures.is judge (all_faults judge index at given) (all_targets index at given) c.targets_in.ensures)

pub targets_in-parts-init : goal.targets_in-parts-init
targets_in-parts-init t c =
    let at = names_are c.args.names.now in
    let index = rule_scope c.args.rule at in
    let judge = rule_faults c.args.rule in
    subst (λ (z : List TypedTarget). AreTargets judge (all_faults judge index at []) (all_targets index at []) z) (sym c.new-all.ensures) (targets_begin judge index at)

pub targets_in-returns-in-Err : goal.targets_in-returns-in-Err
targets_in-returns-in-Err t c =
    let at = names_are c.args.names.now in
    let index = rule_scope c.args.rule at in
    let judge = rule_faults c.args.rule in
    let all = c.args.parts.now in
    let i = c.parts.part-index in
    let x = c.part-item.result in
    targets_cause judge index at all i x c.in-Err.why c.parts-test.true c.part-item.is
    (targets_err judge (all_faults judge index at (take i all) ++ lvalue_faults judge index at x) (all_targets index at (take i all) ++ targets index at x) c.appended.result c.in-Err.why c.in-Err.is
    (c.appended.ensures judge (all_faults judge index at (take i all)) (lvalue_faults judge index at x) (all_targets index at (take i all)) (targets index at x) c.parts.invariant c.typed_targets.ensures.is))

pub targets_in-parts-preserved : goal.targets_in-parts-preserved
targets_in-parts-preserved t c =
    let at = names_are c.args.names.now in
    let index = rule_scope c.args.rule at in
    let judge = rule_faults c.args.rule in
    let all = c.args.parts.now in
    let i = c.parts.part-index in
    let x = c.part-item.result in
    targets_ok judge (all_faults judge index at (take (i + 1) all)) (all_targets index at (take (i + 1) all)) c.appended.result c.in-Ok.more c.in-Ok.is
    (targets_go judge index at all i (i + 1) x c.appended.result c.parts-test.true (omega arith) c.part-item.is
    (c.appended.ensures judge (all_faults judge index at (take i all)) (lvalue_faults judge index at x) (all_targets index at (take i all)) (targets index at x) c.parts.invariant c.typed_targets.ensures.is))
