use Rattle.std.proofs.Common.{◌≡◌, ◌<◌, [], ℕ, length, sym, ◌∙◌, subst, arith}
use Rattle.std.specs.Prelude.{Option, MatchOption, IsTrue}
use Rattle.svex_shape.specs.Shapes.{shape_at}
use Rattle.svex_arena.proofs.Keeping.{extends_on}
use Rattle.node_replace.specs.Walks.{Waits, is_variable}
use Rattle.node_replace.specs.Replacing.{IsReplaced}
use Rattle.node_replace.proofs.Walking.{waits_within}
use Rattle.node_replace.proofs.Replacing.{begins_replaces, goes_replaces, given_there, given_replaces, replaces_end, replaced_root}
use Rattle.node_replace.proofs.replacer.Replacer.replace.Goals as goal

pub variables-init : goal.variables-init
variables-init c =
    let by = c.args.by.now in
    let old = c.args.arena.now in
    let b = c.in_ok-begin.ensures in
    let n = c.in_ok-next.ensures in
    record {
      arena = n.arena;
      extends = n.extends;
      walk = n.walk;
      replaces = goes_replaces by old old c.next_variable.new.arena c.begin.new.self c.next_variable.new.self n.goes (begins_replaces by old c.args.self.now c.begin.new.self c.args.root c.requires.replacing b.begins c.requires.fits);
      next = n.next;
      has = n.goes.kept c.args.root b.begins.has;
      size = n.goes.size ∙ b.begins.size;
    }

pub named-answer-requires-clause-there : goal.named-answer-requires-clause-there
named-answer-requires-clause-there c =
    let i = c.variables.invariant in
    let m = c.variables.self in
    let next = subst (λ (o : Option ℕ). MatchOption o (m.path.items ≡ []) (λ v. Waits m v × IsTrue (is_variable (shape_at c.variables.arena v)))) c.in-Some.is i.next in
    let b = waits_within c.variables.arena m c.in-Some.variable i.walk next.0 in
    let n = i.walk.within in
    omega (arith, b, n)

pub named-answer-requires-clause-variable : goal.named-answer-requires-clause-variable
named-answer-requires-clause-variable c =
    let i = c.variables.invariant in
    let m = c.variables.self in
    let next = subst (λ (o : Option ℕ). MatchOption o (m.path.items ≡ []) (λ v. Waits m v × IsTrue (is_variable (shape_at c.variables.arena v)))) c.in-Some.is i.next in
    next.1

pub give-requires-clause-waits : goal.give-requires-clause-waits
give-requires-clause-waits c =
    let i = c.variables.invariant in
    let m = c.variables.self in
    let next = subst (λ (o : Option ℕ). MatchOption o (m.path.items ≡ []) (λ v. Waits m v × IsTrue (is_variable (shape_at c.variables.arena v)))) c.in-Some.is i.next in
    next.0

pub give-requires-clause-answer : goal.give-requires-clause-answer
give-requires-clause-answer c =
    let i = c.variables.invariant in
    let m = c.variables.self in
    let next = subst (λ (o : Option ℕ). MatchOption o (m.path.items ≡ []) (λ v. Waits m v × IsTrue (is_variable (shape_at c.variables.arena v)))) c.in-Some.is i.next in
    given_there c.args.by.now c.args.arena.now c.variables.arena m c.in-Some.variable c.named-answer.result i.arena i.extends c.requires.replacing.named i.walk i.replaces next.0 next.1 c.named-answer.ensures

pub variables-preserved : goal.variables-preserved
variables-preserved c =
    let i = c.variables.invariant in
    let m = c.variables.self in
    let by = c.args.by.now in
    let base = c.args.arena.now in
    let g = c.in_ok-give.ensures in
    let n = c.in_ok-next-2.ensures in
    let next = subst (λ (o : Option ℕ). MatchOption o (m.path.items ≡ []) (λ v. Waits m v × IsTrue (is_variable (shape_at c.variables.arena v)))) c.in-Some.is i.next in
    let given = given_replaces by base c.variables.arena m c.in-Some.variable c.named-answer.result i.arena i.extends c.requires.replacing.named i.walk i.replaces next.0 next.1 c.named-answer.ensures c.give.new.self g.given in
    record {
      arena = n.arena;
      extends = extends_on base c.variables.arena c.next_variable-in-Some.new.arena i.extends n.extends;
      walk = n.walk;
      replaces = goes_replaces by base c.variables.arena c.next_variable-in-Some.new.arena c.give.new.self c.next_variable-in-Some.new.self n.goes given;
      next = n.next;
      has = n.goes.kept c.args.root (g.given.kept c.args.root i.has);
      size = n.goes.size ∙ g.given.size ∙ i.size;
    }

pub returns-clause-replaced : goal.returns-clause-replaced
returns-clause-replaced c =
    let i = c.variables.invariant in
    let m = c.variables.self in
    let idle = subst (λ (o : Option ℕ). MatchOption o (m.path.items ≡ []) (λ v. Waits m v × IsTrue (is_variable (shape_at c.variables.arena v)))) c.in_default.is i.next in
    let lt : c.args.root < length c.args.arena.now = let b = c.requires.root in let w = c.requires.replacing.walk.within in omega (arith, b, w) in
    subst (IsReplaced c.args.by.now c.args.arena.now c.args.root c.variables.arena) (sym c.answer_of.ensures)
    (replaced_root c.args.by.now c.args.arena.now c.variables.arena m c.args.root i.extends i.walk idle i.replaces lt i.has)

pub returns-clause-replacing : goal.returns-clause-replacing
returns-clause-replacing c =
    let i = c.variables.invariant in
    let m = c.variables.self in
    let idle = subst (λ (o : Option ℕ). MatchOption o (m.path.items ≡ []) (λ v. Waits m v × IsTrue (is_variable (shape_at c.variables.arena v)))) c.in_default.is i.next in
    replaces_end c.args.by.now c.args.arena.now c.variables.arena m i.extends c.requires.replacing.named i.walk idle i.replaces
