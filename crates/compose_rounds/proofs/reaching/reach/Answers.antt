use Rattle.std.proofs.Common.{◌≡◌, [], ℕ, ◌∙◌, subst}
use Rattle.std.specs.Prelude.{Option, MatchOption, IsTrue}
use Rattle.svex_shape.specs.Shapes.{shape_at}
use Rattle.svex_arena.proofs.Keeping.{extends_on}
use Rattle.node_replace.specs.Walks.{Waits, is_variable}
use Rattle.node_replace.proofs.Walking.{walk_kept}
use Rattle.compose_rounds.proofs.Holding.{goes_holding, begins_holding, given_holding, holding_kept, waits_inner}
use Rattle.compose_rounds.proofs.Turning.{scene_kept}
use Rattle.compose_rounds.proofs.reaching.reach.Goals as goal

pub variables-init : goal.variables-init
variables-init c =
    let s = c.args.scene.now in
    let kept = c.args.joins.now in
    let old = c.args.arena.now in
    let new = c.next_variable.new.arena in
    let b = c.in_ok-begin.ensures in
    let n = c.in_ok-next.ensures in
    let begun = begins_holding kept s.segments.eqs s.nodes.items s.settled.items old c.args.replacer.now c.begin.new.self c.args.root c.requires.root.mentions b.walk b.begins c.requires.memo.holding in
    record {
      scene = scene_kept kept old new s n.arena n.extends c.requires.scene;
      hold = goes_holding kept s.segments.eqs s.nodes.items s.settled.items old new c.begin.new.self c.next_variable.new.self n.extends c.requires.scene.grown.size c.requires.scene.grown.outer n.walk n.goes begun;
      next = n.next;
      has = n.goes.kept c.args.root b.begins.has;
      kept = λ k t. n.goes.kept k (b.begins.kept k t);
      size = n.goes.size ∙ b.begins.size;
      extends = n.extends;
    }

pub variable-requires-clause-inner : goal.variable-requires-clause-inner
variable-requires-clause-inner c =
    let s = c.args.scene.now in
    let i = c.variables.invariant in
    let m = c.variables.replacer in
    let next = subst (λ (o : Option ℕ). MatchOption o (m.path.items ≡ []) (λ v. Waits m v × IsTrue (is_variable (shape_at c.variables.arena v)))) c.in-Some.is i.next in
    waits_inner c.args.joins.now c.variables.arena s.segments.eqs s.nodes.items s.settled.items m c.in-Some.node i.hold next.0

pub variable-requires-clause-variable : goal.variable-requires-clause-variable
variable-requires-clause-variable c =
    let i = c.variables.invariant in
    let m = c.variables.replacer in
    let next = subst (λ (o : Option ℕ). MatchOption o (m.path.items ≡ []) (λ v. Waits m v × IsTrue (is_variable (shape_at c.variables.arena v)))) c.in-Some.is i.next in
    next.1

pub returns-in_err-answer-clause-extends : goal.returns-in_err-answer-clause-extends
returns-in_err-answer-clause-extends c = extends_on c.args.arena.now c.variables.arena c.variable.new.arena c.variables.invariant.extends c.in_err-answer.ensures.extends

pub give-requires-clause-walk : goal.give-requires-clause-walk
give-requires-clause-walk c = walk_kept c.variables.arena c.variable.new.arena c.variables.replacer c.in_ok-answer.ensures.extends c.variables.invariant.hold.walk

pub give-requires-clause-waits : goal.give-requires-clause-waits
give-requires-clause-waits c =
    let i = c.variables.invariant in
    let m = c.variables.replacer in
    let next = subst (λ (o : Option ℕ). MatchOption o (m.path.items ≡ []) (λ v. Waits m v × IsTrue (is_variable (shape_at c.variables.arena v)))) c.in-Some.is i.next in
    next.0

pub give-requires-clause-answer : goal.give-requires-clause-answer
give-requires-clause-answer c = let stands = c.in_ok-answer.ensures.stands in record { there = stands.there; wide = stands.wide }

pub returns-in_err-next-2-clause-extends : goal.returns-in_err-next-2-clause-extends
returns-in_err-next-2-clause-extends c =
    extends_on c.args.arena.now c.variable.new.arena c.next_variable-in-Some.new.arena
    (extends_on c.args.arena.now c.variables.arena c.variable.new.arena c.variables.invariant.extends c.in_ok-answer.ensures.extends) c.in_err-next-2.ensures.extends

pub variables-preserved : goal.variables-preserved
variables-preserved c =
    let s = c.args.scene.now in
    let kept = c.args.joins.now in
    let i = c.variables.invariant in
    let a = c.in_ok-answer.ensures in
    let g = c.in_ok-give.ensures in
    let n = c.in_ok-next-2.ensures in
    let old = c.variables.arena in
    let mid = c.variable.new.arena in
    let new = c.next_variable-in-Some.new.arena in
    let scene = scene_kept kept old mid s a.arena a.extends i.scene in
    let held = holding_kept kept old mid s.segments.eqs s.nodes.items s.settled.items c.variables.replacer a.extends i.scene.grown.size i.scene.grown.outer i.hold in
    let given = given_holding kept s.segments.eqs s.nodes.items s.settled.items mid c.variables.replacer c.give.new.self c.in-Some.node c.in_ok-answer.answer c.in_ok-answer.loose g.walk g.given a.stands held in
    record {
      scene = scene_kept kept mid new s n.arena n.extends scene;
      hold = goes_holding kept s.segments.eqs s.nodes.items s.settled.items mid new c.give.new.self c.next_variable-in-Some.new.self n.extends scene.grown.size scene.grown.outer n.walk n.goes given;
      next = n.next;
      has = n.goes.kept c.args.root (g.given.kept c.args.root i.has);
      kept = λ k t. n.goes.kept k (g.given.kept k (i.kept k t));
      size = n.goes.size ∙ g.given.size ∙ i.size;
      extends = extends_on c.args.arena.now mid new (extends_on c.args.arena.now old mid i.extends a.extends) n.extends;
    }
