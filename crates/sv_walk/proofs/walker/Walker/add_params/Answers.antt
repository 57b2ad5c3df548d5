use Rattle.std.proofs.Common.{◌≡◌, ◌∙◌, List, Ok, sym, ap, subst}
use Rattle.sv_tree.specs.declared.design.ParamItem.{ParamItem}
use Rattle.sv_meaning.specs.Faults.{Judged}
use Rattle.sv_meaning.specs.Params.{ParamKind, param_kind}
use Rattle.sv_types.specs.Types.{Refused}
use Rattle.sv_types.specs.Values.{kind_is}
use Rattle.sv_levels.specs.Levels.{levels_are}
use Rattle.sv_hierarchy.specs.Scopes as m
use Rattle.sv_walk.specs.Walks.{state_of}
use Rattle.sv_walk.proofs.DeclaringParams.{kind_refused, params_walked}
use Rattle.sv_walk.proofs.Walking.{ended, ends, walk_next, walk_none, walk_refused}
use Rattle.sv_walk.proofs.walker.Walker.add_params.Goals as goal

pub returns-in_err-kind : goal.returns-in_err-kind
returns-in_err-kind c =
    let st = state_of c.args.self.now c.args.current.now in
    let d = c.args.tree.now in
    kind_refused (param_kind (m.seen st) d.form) (λ k. m.walk_all (m.add_param_item d.word k) d.list st) c.args.self.now c.args.current.now c.from_residual.result c.in_err-kind.field-0.0 c.from_residual.ensures.1
    (subst (λ (j : Judged ParamKind). Refused j c.in_err-kind.field-0.0) (λ i. param_kind (m.seen_at (levels_are c.args.self.now.levels) (c.here-at.ensures i)) (c.as_ref.ensures.value i)) c.in_err-kind.ensures)

pub list-init : goal.list-init
list-init c =
    let st = state_of c.args.self.now c.args.current.now in
    let d = c.args.tree.now in
    let k = kind_is c.in_ok-kind.kind in
    let is : param_kind (m.seen st) d.form ≡ Ok k = sym (λ i. param_kind (m.seen_at (levels_are c.args.self.now.levels) (c.here-at.ensures i)) (c.as_ref.ensures.value i)) ∙ c.in_ok-kind.ensures in
    params_walked (param_kind (m.seen st) d.form) k d st (λ i. param_kind (m.seen st) d.form) is ∙ ap (λ (l : List ParamItem). m.walk_all (m.add_param_item d.word k) l st) (sym c.as_slice-item-items.ensures)

pub returns-in_err-add_param : goal.returns-in_err-add_param
returns-in_err-add_param c =
    let t = state_of c.add_param.new.self c.add_param.new.current in
    let f = m.add_param_item c.args.tree.now.word (kind_is c.in_ok-kind.kind) in
    walk_refused f c.as_slice-item-items.result.now c.list.item-index c.item-item.result (m.add_params c.args.tree.now (state_of c.args.self.now c.args.current.now)) (state_of c.list.self c.list.current) t t
    c.add_param.result c.in_err-add_param.field-0.0 c.from_residual-in_err-add_param.result c.list-test.true c.item-item.is c.list.invariant c.in_err-add_param.was c.add_param.ensures c.from_residual-in_err-add_param.ensures.1

pub list-preserved : goal.list-preserved
list-preserved c =
    let t = state_of c.add_param.new.self c.add_param.new.current in
    let f = m.add_param_item c.args.tree.now.word (kind_is c.in_ok-kind.kind) in
    walk_next f c.as_slice-item-items.result.now c.list.item-index c.item-item.result (m.add_params c.args.tree.now (state_of c.args.self.now c.args.current.now)) (state_of c.list.self c.list.current) t
    c.list-test.true c.item-item.is c.list.invariant (ended t (f c.item-item.result (state_of c.list.self c.list.current)) (tt {0}) c.in_ok-add_param.ensures)

pub returns : goal.returns
returns c =
    let t = state_of c.list.self c.list.current in
    let f = m.add_param_item c.args.tree.now.word (kind_is c.in_ok-kind.kind) in
    let whole = m.add_params c.args.tree.now (state_of c.args.self.now c.args.current.now) in
    ends t whole tt (walk_none f c.as_slice-item-items.result.now c.list.item-index whole t c.list-test.false c.list.invariant)
