use Rattle.std.proofs.Common.{◌≡◌, ◌<◌, length, sym, ap, ◌∙◌, subst, inl, inr, arith}
use Rattle.std.specs.Prelude.{slice_index}
use Rattle.std.proofs.lemmas.Bool.{cases_eq}
use Rattle.std.proofs.lemmas.List.{get_or_default}
use Rattle.lhs_alias.specs.Joined.{widths_of}
use Rattle.svex_arena.specs.Marks.{IsMarked}
use Rattle.svex_arena.proofs.Keeping.{extends_on}
use Rattle.compose_rounds.specs.Answers.{IsInner}
use Rattle.compose_rounds.proofs.Turning.{scene_kept, each-from_index, index-from_each}
use Rattle.compose_rounds.proofs.reaching.reach_all.Goals as goal

pub reach-requires-clause-root : goal.reach-requires-clause-root
reach-requires-clause-root c =
    let s = c.args.scene.now in
    let i = slice_index c.args.members.now c.members.at in
    let inside : i < length s.values.items = index-from_each (λ k. k < length s.values.items) c.args.members.now c.requires.members c.members.at c.members-test.true in
    let p = c.members.invariant.scene.problem in
    let lt : i < length s.segments.eqs = let n = p.count in omega (arith, inside, n) in
    subst (IsInner (widths_of c.args.joins.now) c.members.arena) (sym (c.index.ensures ∙ get_or_default s.values.items i c.index.result.now 0 inside))
    (record { there = p.there i lt; mentions = p.mentions i lt })

pub reach-requires-clause-below : goal.reach-requires-clause-below
reach-requires-clause-below c =
    let s = c.args.scene.now in
    let i = slice_index c.args.members.now c.members.at in
    let inside : i < length s.values.items = index-from_each (λ k. k < length s.values.items) c.args.members.now c.requires.members c.members.at c.members-test.true in
    let here : c.index.result.now ≡ slice_index s.values.items i = c.index.ensures ∙ get_or_default s.values.items i c.index.result.now 0 inside in
    let b = c.requires.values.has i inside in
    let size = c.members.invariant.size in
    omega (arith, b, here, size)

pub members-preserved : goal.members-preserved
members-preserved c =
    let s = c.args.scene.now in
    let i = c.members.invariant in
    let e = c.in_ok-reach.ensures in
    let member = slice_index c.args.members.now c.members.at in
    let inside : member < length s.values.items = index-from_each (λ k. k < length s.values.items) c.args.members.now c.requires.members c.members.at c.members-test.true in
    let here : c.index.result.now ≡ slice_index s.values.items member = c.index.ensures ∙ get_or_default s.values.items member c.index.result.now 0 inside in
    record {
      scene = scene_kept c.args.joins.now c.members.arena c.reach.new.arena s e.arena e.extends i.scene;
      memo = e.memo;
      have = λ j lt. elim (cases_eq j c.members.at) [
        | inl is ↦ subst (IsMarked c.reach.new.replacer.marks.items) (here ∙ ap (λ k. slice_index s.values.items (slice_index c.args.members.now k)) (sym is)) e.has
        | inr ne ↦ e.kept _ (i.have j (omega (arith, lt, ne)))
      ];
      size = e.size ∙ i.size;
      extends = extends_on c.args.arena.now c.members.arena c.reach.new.arena i.extends e.extends;
    }

pub returns-clause-have : goal.returns-clause-have
returns-clause-have c =
    each-from_index (λ i. IsMarked c.members.replacer.marks.items (slice_index c.args.scene.now.values.items i)) c.args.members.now (λ j lt. c.members.invariant.have j (omega (arith, lt)))
