use Rattle.std.proofs.Common.{List, refl, sym, ap, ◌∙◌, Some}
use Rattle.std.proofs.lemmas.Bool.{false≢true}
use Rattle.cnf.specs.declared.Dim.{Dim}
use Rattle.cnf.specs.Clauses.{valuation, assume}
use Rattle.cnf.proofs.Walks.{same_bool}
use Rattle.refute_check.proofs.Denials.{Denied, denied_nil, denied_again, denied_more, denied_clash, range_clash}
use Rattle.refute_check.proofs.Widths.{room_tail}
use Rattle.refute_check.proofs.Reading.{shorter, walk_start, walk_more, walk_end, walk_whole}
use Rattle.refute_check.proofs.marks.Marks.deny.Goals as goal

pub loop-d-init : goal.loop-d-init
loop-d-init c = record { denied = walk_start (Denied c.args.vars (valuation c.args.self.now)) c.args.literals.now (denied_nil _ _ c.requires.open); width = refl; room = c.requires.room }

pub loop-d-smaller : goal.loop-d-smaller
loop-d-smaller c = shorter _ _ _ c.in-Some.ensures.some

pub returns-then-d-vars-clause-answer : goal.returns-then-d-vars-clause-answer
returns-then-d-vars-clause-answer c =
    let P : List Dim → Type 0 = Denied c.args.vars (valuation c.loop-d.self) in (
      λ t. absurd (false≢true t),
      λ h. absurd (range_clash c.args.vars _ _ c.args.literals.now c.in-Some.d (walk_whole P _ _ c.args.literals.now c.in-Some.d c.in-Some.ensures.some c.loop-d.invariant.denied) c.if-d-vars.true h.0),
    )

pub returns-then-value-d-clause-answer : goal.returns-then-value-d-clause-answer
returns-then-value-d-clause-answer c =
    let P : List Dim → Type 0 = Denied c.args.vars (valuation c.loop-d.self) in (
      λ t. absurd (false≢true t),
      λ h. absurd (denied_clash c.args.vars (valuation c.loop-d.self) _ _ c.args.literals.now c.in-Some.d c.in-Some-value_of.value
          (walk_whole P _ _ c.args.literals.now c.in-Some.d c.in-Some.ensures.some c.loop-d.invariant.denied)
          (sym c.value_of.ensures ∙ c.in-Some-value_of.is) c.if-value-d.true c.loop-d.invariant.denied.2 h.1),
    )

pub loop-d-preserved-else-value-d : goal.loop-d-preserved-else-value-d
loop-d-preserved-else-value-d c =
    let P : List Dim → Type 0 = Denied c.args.vars (valuation c.loop-d.self) in
    record {
      denied = walk_more P P _ _ c.args.literals.now c.in-Some.d c.in-Some.ensures.some c.loop-d.invariant.denied
          (denied_again c.args.vars (valuation c.loop-d.self) _ c.in-Some.d c.if-d-vars.false (sym c.value_of.ensures ∙ c.in-Some-value_of.is ∙ ap Some (same_bool _ _ c.if-value-d.false)) c.loop-d.invariant.denied.2);
      width = c.loop-d.invariant.width;
      room = room_tail _ _ _ _ _ c.in-Some.ensures.some c.loop-d.invariant.room;
    }

pub loop-d-preserved : goal.loop-d-preserved
loop-d-preserved c =
    let P : List Dim → Type 0 = Denied c.args.vars (valuation c.loop-d.self) in
    let Q : List Dim → Type 0 = Denied c.args.vars (valuation c.assume.new.self) in
    record {
      denied = walk_more P Q _ _ c.args.literals.now c.in-Some.d c.in-Some.ensures.some c.loop-d.invariant.denied
          (denied_more c.args.vars (valuation c.loop-d.self) (valuation c.assume.new.self) _ c.in-Some.d c.if-d-vars.false (sym c.value_of.ensures ∙ c.in-None.is)
          (c.assume.ensures.value ∙ ap (λ (e : Dim). assume (valuation c.loop-d.self) e) c.not.ensures) c.loop-d.invariant.denied.2);
      width = c.assume.ensures.width ∙ c.loop-d.invariant.width;
      room = room_tail _ _ _ _ _ c.in-Some.ensures.some c.loop-d.invariant.room;
    }

pub returns-clause-answer : goal.returns-clause-answer
returns-clause-answer c =
    let h : Denied c.args.vars (valuation c.loop-d.self) c.args.literals.now =
    walk_end (Denied c.args.vars (valuation c.loop-d.self)) _ c.args.literals.now c.in_default.ensures.none c.loop-d.invariant.denied in
    (λ t. (h.in_range, h.consistent), λ k. refl)

pub returns-clause-values : goal.returns-clause-values
returns-clause-values c =
    let h : Denied c.args.vars (valuation c.loop-d.self) c.args.literals.now =
    walk_end (Denied c.args.vars (valuation c.loop-d.self)) _ c.args.literals.now c.in_default.ensures.none c.loop-d.invariant.denied in
    h.values
