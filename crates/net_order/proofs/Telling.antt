-- The equations that tell a bit of a wire, by the segments of its first bits.
use Rattle.std.proofs.Common.{◌≡◌, ℕ, zero, suc, ◌+◌, ◌-◌, ◌<◌, ◌≤◌, List, [], ◌∷◌, length, map, get_or, refl, sym, ap, ◌∙◌, subst, inl, inr, arith}
use Rattle.std.specs.Prelude.{Contains, IsTrue, All, slice_index, nat_lt, ◌==◌}
use Rattle.std.proofs.lemmas.Bool.{cases_lt, eqb-true, eq-eqb, ltb-true, lt-ltb, leb-true, le-leb, and_parts, and_from}
use Rattle.std.proofs.lemmas.List.{length-map, get_or-map}
use Rattle.std.proofs.lemmas.List.Elements.{Contains-append_left, Contains-append_right, Contains-append_cases}
use Rattle.lhs_alias.specs.declared.segs.Seg.{Seg}
use Rattle.lhs_alias.specs.declared.segs.WireBit.{WireBit}
use Rattle.lhs_alias.specs.Segs.{bit, seg_bits, lhs_bits, IsSeg}
use Rattle.lhs_alias.specs.Lies.{LiesIn, LieIn}
use Rattle.lhs_alias.specs.Joined.{Kept, first_of}
use Rattle.lhs_alias.proofs.SegBits.{length-seg_bits, get_or-seg_bits}
use Rattle.driver_resolve.specs.Drivers.{is_wire}
use Rattle.net_equations.specs.Equations.{has_bit, seg_at}
use Rattle.net_order.specs.Rows.{shares, IsFed, IsTold}

-- ---- bits of segments

record Has (s : Seg) (b : WireBit) : Type 0 where
  wire : s.wire ≡ b.wire
  low : s.lo ≤ b.at
  high : b.at < s.lo + s.width

has-of : (s : Seg) (b : WireBit) → IsTrue (has_bit s b) → Has s b
has-of s b h =
    let p = and_parts _ _ h in
    let q = and_parts _ _ p.1 in
    record { wire = eqb-true s.wire b.wire p.0; low = leb-true s.lo b.at q.0; high = ltb-true b.at (s.lo + s.width) q.1 }

has-to : (s : Seg) (b : WireBit) → Has s b → IsTrue (has_bit s b)
has-to s b h = and_from _ _ (eq-eqb s.wire b.wire h.wire) (and_from _ _ (le-leb s.lo b.at h.low) (lt-ltb b.at (s.lo + s.width) h.high))

bit-of : (b c : WireBit) → b.wire ≡ c.wire → b.at ≡ c.at → b ≡ c
bit-of b c e f = λ i. record { wire = e i; at = f i }

in-bits : (s : Seg) (b : WireBit) → Contains (seg_bits s) b → Has s b
in-bits s b c =
    let lt : c.0 < s.width = omega (arith, c.1, length-seg_bits s) in
    let is : bit s.wire (s.lo + c.0) ≡ b = sym (get_or-seg_bits s c.0 b lt) ∙ c.2 in
    let at : s.lo + c.0 ≡ b.at = ap (λ (x : WireBit). x.at) is in
    record { wire = ap (λ (x : WireBit). x.wire) is; low = omega (arith, at); high = omega (arith, at, lt) }

bits-in : (s : Seg) (b : WireBit) → Has s b → Contains (seg_bits s) b
bits-in s b h =
    let k : ℕ = b.at - s.lo in
    let lt : k < s.width = omega (arith, h.low, h.high) in
    let at : s.lo + k ≡ b.at = omega (arith, h.low) in
    (k, omega (arith, lt, length-seg_bits s), get_or-seg_bits s k b lt ∙ bit-of (bit s.wire (s.lo + k)) b h.wire at)

-- one of some segments has the bit
in-segs : (segs : List Seg) (b : WireBit) → Contains (lhs_bits segs) b → (c : ℕ) × ((c < length segs) × Has (seg_at segs c) b)
in-segs [] b h = absurd (omega (arith, h.1))
in-segs (s ∷ lower) b h = elim (Contains-append_cases (lhs_bits lower) (seg_bits s) b h) [
  | inl below ↦ let r = in-segs lower b below in (suc r.0, (omega (arith, r.1.0), r.1.1))
  | inr here ↦ (0, (omega arith, in-bits s b here))
]

segs-in : (segs : List Seg) (c : ℕ) (b : WireBit) → c < length segs → Has (seg_at segs c) b → Contains (lhs_bits segs) b
segs-in [] c b lt h = absurd (omega (arith, lt))
segs-in (s ∷ lower) zero b lt h = Contains-append_right (lhs_bits lower) (seg_bits s) b (bits-in s b h)
segs-in (s ∷ lower) (suc c) b lt h = Contains-append_left (lhs_bits lower) (seg_bits s) b (segs-in lower c b (omega (arith, lt)) h)

-- ---- segments that have a bit in common

both-share : (s t : Seg) (b : WireBit) → Has s b → Has t b → IsTrue (shares s t)
both-share s t b h g =
    and_from _ _ (eq-eqb s.wire t.wire (h.wire ∙ sym g.wire))
    (and_from _ _ (lt-ltb s.lo (t.lo + t.width) (omega (arith, h.low, g.high))) (lt-ltb t.lo (s.lo + s.width) (omega (arith, g.low, h.high))))

shared : (s t : Seg) → IsSeg s → IsSeg t → IsTrue (shares s t) → (b : WireBit) × (Has s b × Has t b)
shared s t p q h =
    let x = and_parts _ _ h in
    let y = and_parts _ _ x.1 in
    let wire : s.wire ≡ t.wire = eqb-true s.wire t.wire x.0 in
    let low : s.lo < t.lo + t.width = ltb-true s.lo (t.lo + t.width) y.0 in
    let high : t.lo < s.lo + s.width = ltb-true t.lo (s.lo + s.width) y.1 in
    elim (cases_lt s.lo t.lo) [
      | inl less ↦ (bit s.wire t.lo, (record { wire = refl; low = omega (arith, less); high = high }, record { wire = sym wire; low = omega arith; high = omega (arith, q.some) }))
      | inr more ↦ (bit s.wire s.lo, (record { wire = refl; low = omega arith; high = omega (arith, p.some) }, record { wire = sym wire; low = more; high = low }))
    ]

-- ---- of a wire

abbrev whole-of : ℕ → ℕ → Seg
whole-of wire width = record { wire = wire; lo = 0; width = width }

pub whole-lies : (widths : List ℕ) (wire width : ℕ) → 0 < width → width ≤ 128 → IsTrue (is_wire widths wire width) → LieIn widths ((let s : Seg = record { wire = wire; lo = 0; width = width } in s) ∷ [])
whole-lies widths wire width some most is = λ k d lt.
    let p = and_parts (nat_lt wire (length widths)) (slice_index widths wire == width) is in
    let size : slice_index widths wire ≡ width = eqb-true (slice_index widths wire) width p.1 in
    let zero_k : k ≡ 0 = omega (arith, lt) in
    subst (λ i. LiesIn widths (get_or ((let s : Seg = record { wire = wire; lo = 0; width = width } in s) ∷ []) i d)) (sym zero_k)
    (record { whole = record { some = omega (arith, some); ends = omega (arith, most) }; wire = ltb-true wire (length widths) p.0; ends = omega (arith, size) })

pub told : (kept : Kept) (segs firsts : List Seg) (nodes wire width : ℕ) (row : List ℕ) → All IsSeg segs → LieIn kept.widths firsts → IsTrue (is_wire kept.widths wire width)
    → lhs_bits firsts ≡ map (first_of kept) (seg_bits (let s : Seg = record { wire = wire; lo = 0; width = width } in s)) → IsFed segs nodes firsts row → IsTold kept segs nodes wire row
told kept segs firsts nodes wire width row good lies is bits fed = record {
  all = λ j jl f.
      let lt : f.place < width = omega (arith, f.inside.place, size) in
      let has : Contains (lhs_bits firsts) (first_of kept (bit wire f.place)) = subst (λ l. Contains l (first_of kept (bit wire f.place))) (sym bits) (f.place, omega (arith, lt, long), at-place f.place _ lt) in
      let c = in-segs firsts (first_of kept (bit wire f.place)) has in
      fed.all c.0 j c.1.0 jl (both-share (seg_at firsts c.0) (seg_at segs j) (first_of kept (bit wire f.place)) c.1.1 (has-of (seg_at segs j) (first_of kept (bit wire f.place)) f.joined));
  only = λ x c.
      let r = fed.only x c in
      let b = shared (seg_at firsts r.0) (seg_at segs r.1.0) (lies r.0 _ r.1.1.0).whole (good r.1.0 _ r.1.1.1.0) r.1.1.1.1.0 in
      let has : Contains (map (first_of kept) (seg_bits (whole-of wire width))) b.0 = subst (λ l. Contains l b.0) bits (segs-in firsts r.0 b.0 r.1.1.0 b.1.0) in
      let lt : has.0 < width = omega (arith, has.1, long) in
      let same : first_of kept (bit wire has.0) ≡ b.0 = sym (at-place has.0 b.0 lt) ∙ has.2 in (
        r.1.0,
        (
          r.1.1.1.0,
          (
            r.1.1.1.1.1,
            record {
              place = has.0;
              inside = record { wire = ltb-true wire (length kept.widths) (and_parts _ _ is).0; place = omega (arith, lt, size) };
              joined = subst (λ y. IsTrue (has_bit (seg_at segs r.1.0) y)) (sym same) (has-to (seg_at segs r.1.0) b.0 b.1.1);
            },
          ),
        ),
      );
}
  where
    size : slice_index kept.widths wire ≡ width
    size = eqb-true (slice_index kept.widths wire) width (and_parts (nat_lt wire (length kept.widths)) (slice_index kept.widths wire == width) is).1

    long : length (map (first_of kept) (seg_bits (whole-of wire width))) ≡ width
    long = length-map (seg_bits (whole-of wire width)) (first_of kept) ∙ length-seg_bits (whole-of wire width)

    at-place : (k : ℕ) (d : WireBit) → k < width → get_or (map (first_of kept) (seg_bits (whole-of wire width))) k d ≡ first_of kept (bit wire k)
    at-place k d lt =
        get_or-map (first_of kept) (seg_bits (whole-of wire width)) k (bit 0 0) d (omega (arith, lt, length-seg_bits (whole-of wire width))) ∙ ap (first_of kept) (get_or-seg_bits (whole-of wire width) k (bit 0 0) lt ∙ bit-of (bit wire (0 + k)) (bit wire k) refl (omega arith))
