use Rattle.std.proofs.lemmas.Result.{IfOk-from_err}
use Rattle.std.proofs.Common.{◌≡◌, ◌∙◌, List, Result, Ok, Err, sym, ap, subst, arith}
use Rattle.sv_names.specs.Kinds.{layout_is}
use Rattle.sv_names.specs.Names.{constants_are}
use Rattle.sv_meaning.specs.Forms.{form}
use Rattle.sv_meaning.specs.Layouts.{Scope, constant_scope}
use Rattle.sv_outside.specs.declared.refusal.TextErr.{TextErr}
use Rattle.sv_types.specs.declared.enumerators.Enumerator.{Enumerator}
use Rattle.sv_types.specs.declared.forms.Formed.{Formed}
use Rattle.sv_types.specs.Types.{JudgesForm, all_declared, declared_is}
use Rattle.sv_hierarchy.specs.Scopes as m
use Rattle.sv_levels.specs.Levels.{levels_are}
use Rattle.sv_walk.specs.Walks.{state_of}
use Rattle.sv_walk.proofs.Declaring.{ran_out, turn_refused, turn_walked, turns_end, walk_map}
use Rattle.sv_walk.proofs.DeclaringWires.{formed_is, unformed, unlisted}
use Rattle.sv_walk.proofs.walker.Walker.formed.Goals as goal

pub returns-in_err-names-clause-is : goal.returns-in_err-names-clause-is
returns-in_err-names-clause-is c =
    ran_out _ (m.formed c.args.tree.now (state_of c.args.self.now c.args.current.now)) c.from_residual.result c.from_residual.ensures.1

pub returns-in_err-found-clause-is : goal.returns-in_err-found-clause-is
returns-in_err-found-clause-is c =
    let judged : Result Formed TextErr = Err c.in_err-found.field-0.0 in
    let seen : constants_are c.in_ok-names.names ≡ m.seen (state_of c.args.self.now c.args.current.now) = ap constant_scope (c.in_ok-names.ensures.names ∙ ap (m.seen_at (levels_are c.args.self.now.levels)) c.here-at.ensures) in
    unformed c.args.tree.now c.args.self.now c.args.self.now c.args.current.now c.args.current.now c.from_residual-in_err-found.result c.in_err-found.field-0.0 c.from_residual-in_err-found.ensures.1
    (subst (λ (at : Scope). JudgesForm (form at c.args.tree.now) judged) seen c.in_err-found.ensures.is)

pub list-init : goal.list-init
list-init c = walk_map m.add_constant declared_is c.as_slice-label-items.result.now (state_of c.args.self.now c.args.current.now)

pub list-preserved : goal.list-preserved
list-preserved c =
    turn_walked (λ (x : Enumerator). m.add_constant (declared_is x)) c.as_slice-label-items.result.now c.list.label-index c.label-item.result (m.add_constants (all_declared c.as_slice-label-items.result.now) (state_of c.args.self.now c.args.current.now)) c.list.self c.add_constant.new.self c.list.current c.add_constant.new.current tt
    c.list-test.true c.label-item.is c.list.invariant c.in_ok-add_constant.ensures

pub returns-in_err-add_constant-clause-is : goal.returns-in_err-add_constant-clause-is
returns-in_err-add_constant-clause-is c =
    let judged : Result Formed TextErr = Ok c.in_ok-found.found in
    let seen : constants_are c.in_ok-names.names ≡ m.seen (state_of c.args.self.now c.args.current.now) = ap constant_scope (c.in_ok-names.ensures.names ∙ ap (m.seen_at (levels_are c.args.self.now.levels)) c.here-at.ensures) in
    let by : JudgesForm (form (m.seen (state_of c.args.self.now c.args.current.now)) c.args.tree.now) judged = subst (λ (at : Scope). JudgesForm (form at c.args.tree.now) judged) seen c.in_ok-found.ensures.is in
    unlisted c.args.tree.now c.args.self.now c.add_constant.new.self c.args.current.now c.add_constant.new.current c.in_ok-found.found.layout (all_declared c.as_slice-label-items.result.now) c.from_residual-in_err-add_constant.result c.in_err-add_constant.field-0.0 c.from_residual-in_err-add_constant.ensures.1
    (by.is ∙ ap (λ (d : List Enumerator). Ok (layout_is c.in_ok-found.found.layout, all_declared d)) (sym c.as_slice-label-items.ensures))
    (turn_refused (λ (x : Enumerator). m.add_constant (declared_is x)) c.as_slice-label-items.result.now c.list.label-index c.label-item.result (m.add_constants (all_declared c.as_slice-label-items.result.now) (state_of c.args.self.now c.args.current.now)) c.list.self c.add_constant.new.self c.list.current c.add_constant.new.current c.in_err-add_constant.field-0.0
    c.list-test.true c.label-item.is c.list.invariant c.in_err-add_constant.ensures)

pub returns-clause-is : goal.returns-clause-is
returns-clause-is c =
    let judged : Result Formed TextErr = Ok c.in_ok-found.found in
    let seen : constants_are c.in_ok-names.names ≡ m.seen (state_of c.args.self.now c.args.current.now) = ap constant_scope (c.in_ok-names.ensures.names ∙ ap (m.seen_at (levels_are c.args.self.now.levels)) c.here-at.ensures) in
    let by : JudgesForm (form (m.seen (state_of c.args.self.now c.args.current.now)) c.args.tree.now) judged = subst (λ (at : Scope). JudgesForm (form at c.args.tree.now) judged) seen c.in_ok-found.ensures.is in
    formed_is c.args.tree.now c.args.self.now c.list.self c.args.current.now c.list.current c.in_ok-found.found.layout (all_declared c.as_slice-label-items.result.now) tt
    (by.is ∙ ap (λ (d : List Enumerator). Ok (layout_is c.in_ok-found.found.layout, all_declared d)) (sym c.as_slice-label-items.ensures))
    (turns_end (λ (x : Enumerator). m.add_constant (declared_is x)) c.as_slice-label-items.result.now c.list.label-index (m.add_constants (all_declared c.as_slice-label-items.result.now) (state_of c.args.self.now c.args.current.now)) c.list.self c.list.current tt (omega (arith, c.list-test.false)) c.list.invariant)

pub returns-clause-sound : goal.returns-clause-sound
returns-clause-sound c = c.in_ok-found.ensures.is.sound

pub returns-in_err-add_constant-clause-sound : goal.returns-in_err-add_constant-clause-sound
returns-in_err-add_constant-clause-sound c = IfOk-from_err _ _ c.from_residual-in_err-add_constant.ensures.0

pub returns-in_err-names-clause-sound : goal.returns-in_err-names-clause-sound
returns-in_err-names-clause-sound c = IfOk-from_err _ _ c.from_residual.ensures.0

pub returns-in_err-found-clause-sound : goal.returns-in_err-found-clause-sound
returns-in_err-found-clause-sound c = IfOk-from_err _ _ c.from_residual-in_err-found.ensures.0
