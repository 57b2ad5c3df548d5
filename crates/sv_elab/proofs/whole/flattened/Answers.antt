use Rattle.std.proofs.Common.{ℕ, List, [], map, take, refl, sym, ap, ◌∙◌, subst}
use Rattle.std.proofs.lemmas.Result.{err_from_is_err_and}
use Rattle.std.specs.List.{Contains}
use Rattle.driver_resolve.specs.Drivers.{widths_of}
use Rattle.sv_hierarchy.specs.Scopes as h
use Rattle.sv_scope.specs.Scoped.{design_is, wires_of, turns_of}
use Rattle.sv_levels.specs.Tasks.{task_is, work_is}
use Rattle.sv_elab.specs.Working.{AreSizes, IsMade, TaskFits}
use Rattle.sv_elab.proofs.Lists.{contains_map}
use Rattle.sv_elab.proofs.Wholes.{work_here, fit_widths, are_signals, walk_free, walk_more, walk_end, walk_cause, elaborated}
use Rattle.sv_elab.proofs.whole.flattened.Goals as goal

pub add_work-requires-clause-task : goal.add_work-requires-clause-task
add_work-requires-clause-task c =
    let x = c.work-item.result in
    subst (λ (z : List ℕ). TaskFits z (task_is x.task)) (sym (c.deref.ensures.value ∙ c.in_ok-widths.ensures ∙ ap widths_of c.wires-2.ensures.wires))
    (c.requires.ports (work_is x) (subst (λ (z : List h.Standing). Contains z (work_is x)) c.works-work-items.ensures (contains_map work_is c.works-work-items.result.now c.works.work-index x c.works-test.true c.work-item.is)))

pub add_work-requires-clause-above : goal.add_work-requires-clause-above
add_work-requires-clause-above c =
    let x = c.work-item.result in
    c.requires.above (work_is x) (subst (λ (z : List h.Standing). Contains z (work_is x)) c.works-work-items.ensures (contains_map work_is c.works-work-items.result.now c.works.work-index x c.works-test.true c.work-item.is))

pub add_work-requires-clause-free : goal.add_work-requires-clause-free
add_work-requires-clause-free c = walk_free c.args.scopes.now c.works-work-items.result.now c.works.work-index c.work-item.result c.works.making c.requires c.works-work-items.ensures c.works-test.true c.work-item.is c.works.invariant

pub add_work-requires-clause-sizes : goal.add_work-requires-clause-sizes
add_work-requires-clause-sizes c =
    subst AreSizes (sym (c.deref.ensures.value ∙ c.in_ok-widths.ensures ∙ ap widths_of c.wires-2.ensures.wires)) (fit_widths (wires_of c.args.scopes.now) c.wires.ensures.widths)

pub returns-in_err-add_work-clause-err : goal.returns-in_err-add_work-clause-err
returns-in_err-add_work-clause-err c =
    let p = err_from_is_err_and c.from_residual-in_err-add_work.result c.from_residual-in_err-add_work.ensures.1 in
    let s = c.args.scopes.now in
    rw (p.1, p.2) (walk_cause s c.works-work-items.result.now c.works.work-index c.work-item.result c.in_err-add_work.field-0.0 c.works.making c.works-work-items.ensures c.works-test.true c.work-item.is c.works.invariant
    (c.in_err-add_work.ensures.err (map (work_here s) (take c.works.work-index c.works-work-items.result.now)) (turns_of s) c.works.invariant))

pub works-init : goal.works-init
works-init c =
    let s = c.args.scopes.now in
    subst (λ n. IsMade (wires_of s) [] n c.begun-making.result) c.turns.ensures (c.begun-making.ensures (wires_of s))

pub works-preserved : goal.works-preserved
works-preserved c =
    let s = c.args.scopes.now in
    walk_more s c.works-work-items.result.now c.works.work-index c.work-item.result c.add_work.new.making c.works-test.true c.work-item.is
    (c.in_ok-add_work.ensures.ok (map (work_here s) (take c.works.work-index c.works-work-items.result.now)) (turns_of s) c.works.invariant)

pub returns-clause-ok : goal.returns-clause-ok
returns-clause-ok c =
    let s = c.args.scopes.now in
    elaborated (design_is s) (record { arena = c.works.making.arena; wires = c.in_ok-wires.wires; drivers = c.works.making.drivers; joins = c.works.making.joins }) c.works.making
    (are_signals (wires_of s) c.requires.paths c.wires.ensures.widths) (c.in_ok-wires.ensures ∙ c.wires.ensures.wires) refl refl refl
    (walk_end s c.works-work-items.result.now c.works.work-index c.works.making c.works-work-items.ensures c.works-test.false c.works.invariant)
