use Rattle.std.proofs.lemmas.Result.{IfOk-from_err}
use Rattle.std.proofs.Common.{◌≡◌, ℕ, ◌+◌, ◌^◌, ◌++◌, ◌∷◌, [], map, refl, sym, ap, ◌∙◌, arith, append_assoc}
use Rattle.std.specs.List.{range_with_len}
use Rattle.std.proofs.lemmas.List.FromFn.{map-range_with_len_more}
use Rattle.std.proofs.lemmas.Simd.{map-map}
use Rattle.lhs_alias.specs.Segs.{bit, seg_bits}
use Rattle.lhs_alias.specs.Joined.{place_in}
use Rattle.event_nets.proofs.Laying.{seg-place}
use Rattle.event_nets.proofs.lay.put_seg.Goals as goal

pub place-requires-clause-wire : goal.place-requires-clause-wire
place-requires-clause-wire c = (seg-place c.args.starts.now c.args.seg.now (2 ^ 64) c.loop-at.at c.requires.places c.loop-at-test.true).wire

pub place-requires-clause-fits : goal.place-requires-clause-fits
place-requires-clause-fits c = (seg-place c.args.starts.now c.args.seg.now (2 ^ 64) c.loop-at.at c.requires.places c.loop-at-test.true).below

pub loop-at-preserved : goal.loop-at-preserved
loop-at-preserved c =
    let seg = c.args.seg.now in
    let old = c.args.places.now.items in
    let at = c.loop-at.at in
    let f : ℕ → ℕ = λ k. place_in c.args.starts.now (bit seg.wire k) in
    c.in_ok-push.ensures.items
    ∙ ap (λ s. s ++ c.place.result ∷ []) c.loop-at.invariant
    ∙ append_assoc old (map f (range_with_len seg.lo at)) (c.place.result ∷ [])
    ∙ ap (λ p. old ++ (map f (range_with_len seg.lo at) ++ p ∷ [])) c.place.ensures
    ∙ ap (λ s. old ++ s) (sym (map-range_with_len_more f seg.lo at (seg.lo + at) refl))

pub returns : goal.returns
unfolding seg_bits
returns c =
    let seg = c.args.seg.now in
    let old = c.args.places.now.items in
    let f : ℕ → ℕ = λ k. place_in c.args.starts.now (bit seg.wire k) in
    let end : c.loop-at.at ≡ seg.width = omega arith in
    c.loop-at.invariant
    ∙ ap (λ n. old ++ map f (range_with_len seg.lo n)) end
    ∙ ap (λ l. old ++ l) (sym (map-map (place_in c.args.starts.now) (bit seg.wire) (range_with_len seg.lo seg.width)))

pub returns-in_err-push : goal.returns-in_err-push
returns-in_err-push c = IfOk-from_err _ _ c.from_residual.ensures.0
