use Rattle.std.proofs.Common.{◌∙◌, ◌++◌, ◌∷◌, [], List, Result, Ok, Err, map, ap, refl, subst, sym}
use Rattle.sv_outside.specs.declared.refusal.TextErr.{TextErr}
use Rattle.sv_tree.specs.declared.design.One.{One}
use Rattle.sv_meaning.specs.Faults.{◌>>=◌, Judged}
use Rattle.sv_meaning.specs.Layouts.{Name}
use Rattle.sv_hierarchy.specs.Scopes.{State, add_child, child_of, declare_at, path_of, walk_all}
use Rattle.sv_levels.specs.Tasks.{child_is}
use Rattle.sv_walk.specs.Walks.{state_of}
use Rattle.sv_walk.proofs.Declaring.{ran_out}
use Rattle.sv_walk.proofs.Walking.{Ends, ended, ends, handed_walk, same_ends, walk_next, walk_none, walk_refused}
use Rattle.sv_walk.proofs.WalkingBlocks.{declared_as}
use Rattle.sv_walk.proofs.WalkingChildren.{children_more}
use Rattle.sv_walk.proofs.walker.Walker.add_children.Goals as goal

pub returns-in_err-declare_at : goal.returns-in_err-declare_at
returns-in_err-declare_at c =
    let t = state_of c.list.self c.declare_at.new.self in
    let e = c.in_err-declare_at.field-0.0 in
    let f = add_child c.args.inst.now in
    let refused : Result (Unit {0}) TextErr = Err e in
    same_ends t (walk_all f c.args.inst.now.list (state_of c.args.self.now c.args.current.now)) (walk_all f c.as_slice-one-items.result.now (state_of c.args.self.now c.args.current.now)) c.from_residual.result
    (ap (λ (l : List One). walk_all f l (state_of c.args.self.now c.args.current.now)) (sym c.as_slice-one-items.ensures))
    (walk_refused f c.as_slice-one-items.result.now c.list.one-index c.one-item.result (walk_all f c.as_slice-one-items.result.now (state_of c.args.self.now c.args.current.now)) (state_of c.list.self c.list.current) t t
    refused e c.from_residual.result c.list-test.true c.one-item.is c.list.invariant refl
    (handed_walk t t (declare_at c.one-item.result.name.place c.one-item.result.name.text (state_of c.list.self c.list.current)) (λ (s : State). Ok (record s { children = s.children ++ child_of c.args.inst.now c.one-item.result s ∷ [] }))
    c.declare_at.result e refused c.in_err-declare_at.was
    (subst (λ (n : Name). Ends t (declare_at c.one-item.result.name.place n (state_of c.list.self c.list.current)) c.declare_at.result) c.bytes.ensures (c.declare_at.ensures c.list.self)) refl)
    c.from_residual.ensures.1)

pub returns-in_err-path : goal.returns-in_err-path
returns-in_err-path c =
    let j = walk_all (add_child c.args.inst.now) c.args.inst.now.list (state_of c.args.self.now c.args.current.now) in
    ran_out _ j c.from_residual-in_err-path.result c.from_residual-in_err-path.ensures.1

pub returns-in_err-push : goal.returns-in_err-push
returns-in_err-push c =
    let j = walk_all (add_child c.args.inst.now) c.args.inst.now.list (state_of c.args.self.now c.args.current.now) in
    ran_out _ j c.from_residual-in_err-push.result c.from_residual-in_err-push.ensures.1

pub list-preserved : goal.list-preserved
list-preserved c =
    let f = add_child c.args.inst.now in
    let s = state_of c.list.self c.list.current in
    let q = state_of c.list.self c.declare_at.new.self in
    let e = declared_as c.one-item.result.name.place c.one-item.result.name.place c.bytes.result.now c.one-item.result.name.text s q refl c.bytes.ensures
    (ended q (declare_at c.one-item.result.name.place c.bytes.result.now s) (tt {0}) (c.in_ok-declare_at.ensures c.list.self)) in
    let more = children_more q c.args.inst.now c.one-item.result c.list.self.children.items c.push.new.self.items _ c.in_ok-push.ensures.items refl c.here-at.ensures refl refl
    (c.in_ok-path.ensures ∙ ap (λ (n : Name). path_of q n) c.bytes-in-list.ensures) c.params_of.ensures c.as_ref.ensures.value in
    let t = record q { children = map child_is c.push.new.self.items } in
    walk_next f c.as_slice-one-items.result.now c.list.one-index c.one-item.result (walk_all f c.as_slice-one-items.result.now (state_of c.args.self.now c.args.current.now)) s t
    c.list-test.true c.one-item.is c.list.invariant (ended t (f c.one-item.result s) (tt {0})
    (ends (record q { children = map child_is c.push.new.self.items }) (declare_at c.one-item.result.name.place c.one-item.result.name.text s >>= λ (x : State). Ok (record x { children = x.children ++ child_of c.args.inst.now c.one-item.result x ∷ [] })) tt
    (ap (λ (j : Judged State). j >>= λ (x : State). Ok (record x { children = x.children ++ child_of c.args.inst.now c.one-item.result x ∷ [] })) e ∙ λ i. Ok (record q { children = more i }))))

pub returns : goal.returns
returns c =
    let t = state_of c.list.self c.list.current in
    let f = add_child c.args.inst.now in
    same_ends t (walk_all f c.args.inst.now.list (state_of c.args.self.now c.args.current.now)) (walk_all f c.as_slice-one-items.result.now (state_of c.args.self.now c.args.current.now)) (Ok tt)
    (ap (λ (l : List One). walk_all f l (state_of c.args.self.now c.args.current.now)) (sym c.as_slice-one-items.ensures))
    (ends t (walk_all f c.as_slice-one-items.result.now (state_of c.args.self.now c.args.current.now)) tt
    (walk_none f c.as_slice-one-items.result.now c.list.one-index (walk_all f c.as_slice-one-items.result.now (state_of c.args.self.now c.args.current.now)) t c.list-test.false c.list.invariant))
