-- Places of bits in segments, as they are listed.
use Rattle.std.proofs.Common.{◌≡◌, ℕ, suc, ◌+◌, ◌-◌, ◌<◌, ◌≤◌, Bool, List, [], ◌∷◌, ◌++◌, length, get_or, take, drop, take-append-drop, All, map, sym, ap, ◌∙◌, subst, arith}
use Rattle.std.specs.Prelude.{slice_index_or}
use Rattle.std.specs.List.{AllZip, range_with_len}
use Rattle.std.proofs.lemmas.List.Elements.{All-append, All-from_get_or, All-head, All-map}
use Rattle.std.proofs.lemmas.List.{get_or_append_left, get_or-append-add, length-append}
use Rattle.std.proofs.lemmas.List.FromFn.{length-map-range_with_len, get_or-map-range_with_len}
use Rattle.lhs_alias.specs.declared.segs.Seg.{Seg}
use Rattle.lhs_alias.specs.declared.segs.WireBit.{WireBit}
use Rattle.lhs_alias.specs.Segs.{bit, seg_bits, lhs_bits}
use Rattle.lhs_alias.specs.Lies.{IsBitOf, LiesIn, LieIn}
use Rattle.lhs_alias.proofs.SegBits.{lhs_bits-push, lhs_bits-append, lhs_bits-take_more, seg_bits-one, get_or-seg_bits, length-seg_bits}
use Rattle.svex_arena.specs.Marks.{IsMarked}
use Rattle.driver_resolve.specs.Drivers.{wire_bits}
use Rattle.compose_rounds.specs.Sources.{IsSource}

one-place : (place : Seg) → place.width ≡ 1 → seg_bits place ≡ bit place.wire place.lo ∷ []
one-place place e = ap (λ w. seg_bits (record { wire = place.wire; lo = place.lo; width = w })) e ∙ seg_bits-one place.wire place.lo

pub put-more : (segs : List Seg) (wire lo width left : ℕ) (before : List WireBit) (out new : List Seg) (place : Seg) → 0 < left → left ≤ width
    → new ≡ out ++ place ∷ [] → place.width ≡ 1 → IsSource segs (bit wire (lo + (left - 1))) (bit place.wire place.lo)
    → AllZip (IsSource segs) (map (bit wire) (range_with_len (lo + left) (width - left)) ++ before) (lhs_bits out)
    → AllZip (IsSource segs) (map (bit wire) (range_with_len (lo + (left - 1)) (width - (left - 1))) ++ before) (lhs_bits new)
put-more segs wire lo width left before out new place some most pushed one is h =
    let count : suc (width - left) ≡ width - (left - 1) = omega (arith, some, most) in
    let from : lo + left ≡ lo + (left - 1) + 1 = omega (arith, some) in
    let bits : bit place.wire place.lo ∷ lhs_bits out ≡ lhs_bits new = sym (ap lhs_bits pushed ∙ lhs_bits-push out place ∙ ap (λ l. l ++ lhs_bits out) (one-place place one)) in
    subst (λ n. AllZip (IsSource segs) (map (bit wire) (range_with_len (lo + (left - 1)) n) ++ before) (lhs_bits new)) count
    (subst (λ l. AllZip (IsSource segs) (map (bit wire) (range_with_len (lo + (left - 1)) (suc (width - left))) ++ before) l) bits
    (is, subst (λ a. AllZip (IsSource segs) (map (bit wire) (range_with_len a (width - left)) ++ before) (lhs_bits out)) from h))

pub put-end : (segs : List Seg) (seg : Seg) (left : ℕ) (before : List WireBit) (out : List Seg) → left ≡ 0
    → AllZip (IsSource segs) (map (bit seg.wire) (range_with_len (seg.lo + left) (seg.width - left)) ++ before) (lhs_bits out)
    → AllZip (IsSource segs) (seg_bits seg ++ before) (lhs_bits out)
unfolding seg_bits
put-end segs seg left before out e h =
    let lo : seg.lo + left ≡ seg.lo = omega (arith, e) in
    let width : seg.width - left ≡ seg.width = omega (arith, e) in
    subst (λ a. AllZip (IsSource segs) (map (bit seg.wire) (range_with_len a seg.width) ++ before) (lhs_bits out)) lo
    (subst (λ n. AllZip (IsSource segs) (map (bit seg.wire) (range_with_len (seg.lo + left) n) ++ before) (lhs_bits out)) width h)

pub pieces-are : (segs : List Seg) (first : WireBit → WireBit) (wire width : ℕ) (whole firsts put made : List Seg)
    → whole ≡ (let s : Seg = record { wire = wire; lo = 0; width = width } in s) ∷ [] → lhs_bits firsts ≡ map first (lhs_bits whole)
    → AllZip (IsSource segs) (lhs_bits firsts) (lhs_bits put) → lhs_bits made ≡ lhs_bits put
    → AllZip (IsSource segs) (map first (wire_bits wire width)) (lhs_bits made)
unfolding seg_bits
pieces-are segs first wire width whole firsts put made w f h m =
    subst (λ l. AllZip (IsSource segs) (map first (wire_bits wire width)) l) (sym m)
    (subst (λ l. AllZip (IsSource segs) l (lhs_bits put)) (f ∙ ap (λ s. map first (lhs_bits s)) w) h)

pub pieces-more : (pieces : List Seg) (marks : List Bool) (at : ℕ) → at < length pieces → ((slice_index_or pieces at (record { wire = 0; lo = 0; width = 0 })).wire < length marks → IsMarked marks (slice_index_or pieces at (record { wire = 0; lo = 0; width = 0 })).wire)
    → All (λ b. b.wire < length marks → IsMarked marks b.wire) (lhs_bits (take at pieces)) → All (λ b. b.wire < length marks → IsMarked marks b.wire) (lhs_bits (take (at + 1) pieces))
pieces-more pieces marks at lt h all =
    let none : Seg = record { wire = 0; lo = 0; width = 0 } in
    let s = get_or pieces at none in
    let P : WireBit → Type 0 = λ b. b.wire < length marks → IsMarked marks b.wire in
    subst (All P) (sym (lhs_bits-take_more pieces at none lt))
    (All-append P (seg_bits s) (lhs_bits (take at pieces))
    (All-from_get_or P (seg_bits s) (bit 0 0) (λ k l. subst P (sym (get_or-seg_bits s k (bit 0 0) (omega (arith, l, length-seg_bits s)))) h)) all)

-- what holds of all bits of segments holds of those of one of them
pub bits-of-one : (P : WireBit → Type 0) (segs : List Seg) (at : ℕ) → at < length segs → All P (lhs_bits segs) → All P (seg_bits (get_or segs at (record { wire = 0; lo = 0; width = 0 })))
bits-of-one P segs at lt h =
    let none : Seg = record { wire = 0; lo = 0; width = 0 } in
    let whole : lhs_bits segs ≡ lhs_bits (drop (at + 1) segs) ++ (seg_bits (get_or segs at none) ++ lhs_bits (take at segs)) =
    ap lhs_bits (sym (take-append-drop (at + 1) segs)) ∙ lhs_bits-append (take (at + 1) segs) (drop (at + 1) segs) ∙ ap (λ l. lhs_bits (drop (at + 1) segs) ++ l) (lhs_bits-take_more segs at none lt) in
    All-front-of P (seg_bits (get_or segs at none)) (lhs_bits (take at segs)) (All-back-of P (lhs_bits (drop (at + 1) segs)) _ (subst (All P) whole h))
  where
    All-front-of : (Q : WireBit → Type 0) (a b : List WireBit) → All Q (a ++ b) → All Q a
    All-front-of Q a b k i d l = subst Q (get_or_append_left a b d i l) (k i d (let n = length-append a b in omega (arith, n, l)))

    All-back-of : (Q : WireBit → Type 0) (a b : List WireBit) → All Q (a ++ b) → All Q b
    All-back-of Q a b k i d l = subst Q (get_or-append-add a b i d) (k (length a + i) d (let n = length-append a b in omega (arith, n, l)))

-- the first bits of a wire have sources
pub firsts-have : (widths : List ℕ) (P : WireBit → Type 0) (first : WireBit → WireBit) (wire width : ℕ) (whole firsts : List Seg) → LieIn widths ((let s : Seg = record { wire = wire; lo = 0; width = width } in s) ∷ [])
    → whole ≡ (let s : Seg = record { wire = wire; lo = 0; width = width } in s) ∷ [] → lhs_bits firsts ≡ map first (lhs_bits whole) → ((b : WireBit) → IsBitOf widths b → P (first b)) → All P (lhs_bits firsts)
unfolding seg_bits
firsts-have widths P first wire width whole firsts lies w f h =
    let s : Seg = record { wire = wire; lo = 0; width = width } in
    let one = All-head (LiesIn widths) s [] lies in
    let bits : lhs_bits firsts ≡ map first (wire_bits wire width) = f ∙ ap (λ l. map first (lhs_bits l)) w in
    let wide : length (wire_bits wire width) ≡ width = length-map-range_with_len (bit wire) 0 width in
    subst (All P) (sym bits)
    (All-map P first (wire_bits wire width)
    (λ k d l.
    let lt : k < width = omega (arith, l, wide) in
    subst (λ b. P (first b)) (sym (get_or-map-range_with_len (bit wire) 0 width k k d lt (omega arith)))
    (h (bit wire k) (record { wire = one.wire; place = let e = one.ends in omega (arith, e, lt) }))))
