use Rattle.std.proofs.Common.{◌≡◌, ◌∙◌, ◌-◌, suc, Vec, Global, ap, sym, refl, subst, arith}
use Rattle.sv_meaning.specs.Faults.{Judged}
use Rattle.sv_hierarchy.specs.Scopes as m
use Rattle.sv_loops.specs.Answers.{Answers}
use Rattle.sv_loops.proofs.Chains.{answers_ok}
use Rattle.sv_levels.specs.Library.{child_alone, known_is}
use Rattle.sv_levels.specs.Tasks.{child_is}
use Rattle.sv_walk.specs.Walks.{state_of}
use Rattle.sv_levels.specs.declared.library.Known.{Known}
use Rattle.sv_levels.specs.declared.tasks.Child.{Child}
use Rattle.sv_walk.specs.declared.walker.Open.{Open}
use Rattle.sv_walk.proofs.Opening.{Reached, walk_next, walk_refused, walk_end, walked_to, value_is, below_begins, too_deep, child_unknown, own_refused, own_walked, outer_answers}
use Rattle.sv_levels.proofs.Wired.{passed_on}
use Rattle.sv_walk.proofs.walker.Walker.+child.Goals as goal

pub below-children-init : goal.below-children-init
below-children-init t c = λ all h.
    below_begins c.args.self.now c.args.current.now (m.child c.args.deep all) c.deref-child-items.result.now c.replace-children.new.dest
    (c.deref-child-items.ensures.value ∙ ap (λ (v : Vec Child Global). v.items) c.replace-children.ensures.value) (ap (λ (v : Vec Child Global). v.items) c.replace-children.ensures.after ∙ c.new.ensures.items)

pub below-child-requires : goal.below-child-requires
below-child-requires t c = (omega (arith, c.decreases), tt)

pub below-returns-in_err-child : goal.below-returns-in_err-child
below-returns-in_err-child t c = λ all h.
    let e = c.in_err-child.field-0.0 in
    let f = m.child c.args.deep all in
    let j = m.below f (state_of c.args.self.now c.args.current.now) in
    passed_on Reached _ j c.from_residual.result e c.from_residual.ensures.1
    (walk_refused child_is f Reached c.deref-child-items.result.now c.children.child-index c.child-item.result j (state_of c.children.self c.args.current.now)
    (λ (st : m.State) (u : Unit {0}). st ≡ state_of c.child.new.self c.args.current.now) e c.children-test.true c.child-item.is (c.children.invariant all h) (c.in_err-child.ensures all h))

pub below-children-preserved : goal.below-children-preserved
below-children-preserved t c = λ all h.
    let f = m.child c.args.deep all in
    let st = state_of c.children.self c.args.current.now in
    let next = state_of c.child.new.self c.args.current.now in
    walk_next child_is f c.deref-child-items.result.now c.children.child-index c.child-item.result (m.below f (state_of c.args.self.now c.args.current.now)) st next c.children-test.true c.child-item.is (c.children.invariant all h)
    (walked_to (f (child_is c.child-item.result) st) next c.in_ok-child.field-0 (c.in_ok-child.ensures all h))

pub below-returns : goal.below-returns
below-returns t c = λ all h.
    let f = m.child c.args.deep all in
    let j = m.below f (state_of c.args.self.now c.args.current.now) in
    let last = state_of c.children.self c.args.current.now in
    answers_ok (λ (st : m.State) (u : Unit {0}). st ≡ last) j last tt
    (walk_end child_is f c.deref-child-items.result.now c.children.child-index j last (omega (arith, c.children-test.false)) (c.children.invariant all h)) refl

pub child-returns-then-deep-eq0 : goal.child-returns-then-deep-eq0
child-returns-then-deep-eq0 t c = λ all h.
    too_deep (λ (st : m.State) (u : Unit {0}). st ≡ state_of c.args.self.now c.args.current.now) c.args.deep all (child_is c.args.child.now) (state_of c.args.self.now c.args.current.now) c.refusal.result c.if-deep-eq0.true c.refusal.ensures

pub child-returns-in_err-known : goal.child-returns-in_err-known
child-returns-in_err-known t c = λ all h.
    let e = c.in_err-known.field-0.0 in
    let ch = child_is c.args.child.now in
    let st = state_of c.args.self.now c.args.current.now in
    let more : c.args.deep ≡ suc (c.args.deep - 1) = omega (arith, c.if-deep-eq0.false) in
    passed_on Reached _ (m.child c.args.deep all ch st) c.from_residual.result e c.from_residual.ensures.1
    (child_unknown (λ (k : m.Known) (known : Known). k ≡ known_is known) Reached c.args.deep (c.args.deep - 1) all ch st e more (c.in_err-known.ensures all h))

pub child-returns-in_err-own : goal.child-returns-in_err-own
child-returns-in_err-own t c = λ all h.
    let e = c.in_err-own.field-0.0 in
    let ch = child_is c.args.child.now in
    let st = state_of c.args.self.now c.args.current.now in
    let more : c.args.deep ≡ suc (c.args.deep - 1) = omega (arith, c.if-deep-eq0.false) in
    passed_on Reached _ (m.child c.args.deep all ch st) c.from_residual-in_err-own.result e c.from_residual-in_err-own.ensures.1
    (own_refused (λ (s : m.State) (own : Open). s ≡ state_of c.open_child.new.self own) Reached c.args.deep (c.args.deep - 1) all ch st (known_is c.in_ok-known.known) e more
    (value_is known_is (m.module_of all ch) c.in_ok-known.known (c.in_ok-known.ensures all h)) (c.in_err-own.ensures c.args.current.now))

pub child-below-done-requires : goal.child-below-done-requires
child-below-done-requires t c = (omega (arith, c.decreases, c.if-deep-eq0.false), tt)

pub child-returns : goal.child-returns
child-returns t c = λ all h.
    let ch = child_is c.args.child.now in
    let st = state_of c.args.self.now c.args.current.now in
    let k = known_is c.in_ok-known.known in
    let own = state_of c.open_child.new.self c.in_ok-own.own in
    let more : c.args.deep ≡ suc (c.args.deep - 1) = omega (arith, c.if-deep-eq0.false) in
    subst (λ (j : Judged m.State). Answers (λ (s : m.State) (u : Unit {0}). s ≡ state_of c.below-done.new.self c.args.current.now) j c.below-done.result)
    (sym (own_walked c.args.deep (c.args.deep - 1) all ch st own k more (value_is known_is (m.module_of all ch) c.in_ok-known.known (c.in_ok-known.ensures all h))
    (value_is (λ (o : Open). state_of c.open_child.new.self o) (child_alone k ch st) c.in_ok-own.own (c.in_ok-own.ensures c.args.current.now))))
    (outer_answers (m.below (m.child (c.args.deep - 1) all) own) c.args.self.now c.below-done.new.self c.args.current.now c.in_ok-own.own c.below-done.result (c.below-done.ensures all h))
