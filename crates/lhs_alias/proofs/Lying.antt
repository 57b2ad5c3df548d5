-- Segments lie within the wires where their bits do.
use Rattle.std.proofs.Common.{◌≡◌, ℕ, ◌+◌, ◌-◌, ◌*◌, ◌<◌, ◌≤◌, List, [], ◌∷◌, ◌++◌, length, take, drop, length-append, sym, subst, arith}
use Rattle.std.specs.Prelude.{All, slice_index}
use Rattle.std.proofs.lemmas.List.{get_or_append_left, get_or-append-add}
use Rattle.std.proofs.lemmas.List.Elements.{All-append, All-head, All-tail, All-cons, All-nil, All-take, All-drop, All-weaker}
use Rattle.lhs_alias.specs.declared.segs.Seg.{Seg}
use Rattle.lhs_alias.specs.declared.segs.WireBit.{WireBit}
use Rattle.lhs_alias.specs.Segs.{bit, seg_bits, lhs_bits, IsSeg, AreSegs}
use Rattle.lhs_alias.specs.Lies.{IsBitOf, LiesIn, LieIn}
use Rattle.lhs_alias.proofs.SegBits.{length-seg_bits, get_or-seg_bits}

pub All-left : {X : Type 0} (P : X → Type 0) (xs ys : List X) → All P (xs ++ ys) → All P xs
All-left P xs ys all k d h = rw (← get_or_append_left xs ys d k h) (all k d (omega (arith, length-append xs ys)))

pub All-right : {X : Type 0} (P : X → Type 0) (xs ys : List X) → All P (xs ++ ys) → All P ys
All-right P xs ys all k d h = rw (← get_or-append-add xs ys k d) (all (length xs + k) d (omega (arith, length-append xs ys)))

pub seg_bits-lie : (widths : List ℕ) (seg : Seg) → LiesIn widths seg → All (IsBitOf widths) (seg_bits seg)
seg_bits-lie widths seg lies k d h =
    let short : k < seg.width = omega (arith, length-seg_bits seg) in
    let ends : seg.lo + seg.width ≤ slice_index widths seg.wire = lies.ends in
    let lies-there : IsBitOf widths (bit seg.wire (seg.lo + k)) = record { wire = lies.wire; place = omega arith } in
    let P : WireBit → Type 0 = IsBitOf widths in
    subst P (sym (get_or-seg_bits seg k d short)) lies-there

pub seg-lies : (widths : List ℕ) (seg : Seg) → IsSeg seg → All (IsBitOf widths) (seg_bits seg) → LiesIn widths seg
seg-lies widths seg is bits =
    let some : 1 ≤ seg.width = is.some in
    let last : seg.width - 1 < length (seg_bits seg) = omega (arith, length-seg_bits seg) in
    let P : WireBit → Type 0 = IsBitOf widths in
    let top = subst P (get_or-seg_bits seg (seg.width - 1) (bit 0 0) (omega arith)) (bits (seg.width - 1) (bit 0 0) last) in
    let place : seg.lo + (seg.width - 1) < slice_index widths seg.wire = top.place in
    record { whole = is; wire = top.wire; ends = omega arith }

-- the bits of segments that lie within the wires do
pub lhs_bits-lie : (widths : List ℕ) (segs : List Seg) → LieIn widths segs → All (IsBitOf widths) (lhs_bits segs)
lhs_bits-lie widths [] lie = All-nil (IsBitOf widths)
lhs_bits-lie widths (s ∷ segs) lie =
    All-append (IsBitOf widths) (lhs_bits segs) (seg_bits s) (lhs_bits-lie widths segs (All-tail (LiesIn widths) s segs lie)) (seg_bits-lie widths s (All-head (LiesIn widths) s segs lie))

-- segments of such bits lie within the wires
pub lie-from_bits : (widths : List ℕ) (segs : List Seg) → AreSegs segs → All (IsBitOf widths) (lhs_bits segs) → LieIn widths segs
lie-from_bits widths [] are bits = All-nil (LiesIn widths)
lie-from_bits widths (s ∷ segs) are bits =
    All-cons (LiesIn widths) s segs
    (seg-lies widths s (All-head IsSeg s segs are) (All-right (IsBitOf widths) (lhs_bits segs) (seg_bits s) bits))
    (lie-from_bits widths segs (All-tail IsSeg s segs are) (All-left (IsBitOf widths) (lhs_bits segs) (seg_bits s) bits))

pub are_segs-from_lie : (widths : List ℕ) (segs : List Seg) → LieIn widths segs → AreSegs segs
are_segs-from_lie widths segs lie k d h = (lie k d h).whole

-- another cut of the same bits
pub lie-same_bits : (widths : List ℕ) (old new : List Seg) → AreSegs new → lhs_bits new ≡ lhs_bits old → LieIn widths old → LieIn widths new
lie-same_bits widths old new are same lie =
    lie-from_bits widths new are (let P : List WireBit → Type 0 = All (IsBitOf widths) in subst P (sym same) (lhs_bits-lie widths old lie))

-- segments of some of the bits
pub lie-part : (widths : List ℕ) (old new : List Seg) (lo width : ℕ) → AreSegs new → lhs_bits new ≡ take width (drop lo (lhs_bits old)) → LieIn widths old → LieIn widths new
lie-part widths old new lo width are part lie =
    lie-from_bits widths new are
    (let P : List WireBit → Type 0 = All (IsBitOf widths) in
    subst P (sym part) (All-take (IsBitOf widths) width (drop lo (lhs_bits old)) (All-drop (IsBitOf widths) lo (lhs_bits old) (lhs_bits-lie widths old lie))))

-- segments of both
pub lie-append : (widths : List ℕ) (high low : List Seg) → LieIn widths high → LieIn widths low → LieIn widths (high ++ low)
lie-append widths high low = All-append (LiesIn widths) high low

-- segments that lie within wires are segments
pub whole-segs : (widths : List ℕ) (given segs : List Seg) → segs ≡ given → LieIn widths given → AreSegs segs
whole-segs widths given segs is lie =
    let P : List Seg → Type 0 = AreSegs in
    subst P (sym is) (All-weaker (LiesIn widths) IsSeg (λ s l. l.whole) given lie)

-- no segment has more than 128 bits
pub lhs_bits-short : (segs : List Seg) → AreSegs segs → length (lhs_bits segs) ≤ 128 * length segs
lhs_bits-short [] are = omega arith
lhs_bits-short (s ∷ segs) are =
    let seg = All-head IsSeg s segs are in
    omega (arith, length-append (lhs_bits segs) (seg_bits s), length-seg_bits s, seg.ends, lhs_bits-short segs (All-tail IsSeg s segs are))

pub ruleset lengths = (lhs_bits-short)
