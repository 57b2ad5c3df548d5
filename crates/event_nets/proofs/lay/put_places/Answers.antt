use Rattle.std.proofs.lemmas.Result.{IfOk-from_err}
use Rattle.std.proofs.Common.{◌≡◌, ◌^◌, ◌++◌, List, map, sym, ap, ◌∙◌, subst, append_assoc}
use Rattle.std.specs.Prelude.{All}
use Rattle.std.proofs.lemmas.List.{map-append}
use Rattle.lhs_alias.specs.declared.segs.WireBit.{WireBit}
use Rattle.lhs_alias.specs.Segs.{seg_bits, lhs_bits, IsSeg}
use Rattle.lhs_alias.specs.Joined.{HasPlace, place_in}
use Rattle.lhs_alias.proofs.SegBits.{lhs_bits-push, All-front}
use Rattle.lhs_alias.proofs.Lying.{All-left, All-right}
use Rattle.event_nets.proofs.lay.put_places.Goals as goal

pub put_seg-requires-clause-places : goal.put_seg-requires-clause-places
put_seg-requires-clause-places c =
    let low = c.in-Some.low.now in
    let higher = c.in-Some.higher.now in
    let parts : lhs_bits c.segs.rest.now ≡ seg_bits low ++ lhs_bits higher = ap (λ s. lhs_bits s) c.in-Some.ensures.cases.0 ∙ lhs_bits-push higher low in
    let P : List WireBit → Type 0 = All (HasPlace c.args.starts.now (2 ^ 64)) in
    All-left (HasPlace c.args.starts.now (2 ^ 64)) (seg_bits low) (lhs_bits higher) (subst P parts c.segs.invariant.there)

pub segs-preserved : goal.segs-preserved
segs-preserved c =
    let rest = c.segs.rest.now in
    let low = c.in-Some.low.now in
    let higher = c.in-Some.higher.now in
    let old = c.segs.places.items in
    let p = place_in c.args.starts.now in
    let is = c.in-Some.ensures.cases.0 in
    let parts : lhs_bits rest ≡ seg_bits low ++ lhs_bits higher = ap (λ s. lhs_bits s) is ∙ lhs_bits-push higher low in
    let P : List WireBit → Type 0 = All (HasPlace c.args.starts.now (2 ^ 64)) in
    record {
      places =
          ap (λ l. l ++ map p (lhs_bits higher)) c.in_ok-put_seg.ensures
          ∙ append_assoc old (map p (seg_bits low)) (map p (lhs_bits higher))
          ∙ ap (λ l. old ++ l) (sym (map-append p (seg_bits low) (lhs_bits higher)))
          ∙ ap (λ l. old ++ map p l) (sym parts)
          ∙ c.segs.invariant.places;
      segs = All-front IsSeg rest higher low is c.segs.invariant.segs;
      there = All-right (HasPlace c.args.starts.now (2 ^ 64)) (seg_bits low) (lhs_bits higher) (subst P parts c.segs.invariant.there);
    }

pub returns-in_err-put_seg : goal.returns-in_err-put_seg
returns-in_err-put_seg c = IfOk-from_err _ _ c.from_residual.ensures.0
