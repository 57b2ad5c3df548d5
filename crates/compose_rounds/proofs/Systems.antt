-- Equations as a system, and the values of wires over nodes of segments.
use Rattle.std.proofs.Common.{◌≡◌, ℕ, zero, suc, ◌+◌, ◌-◌, ◌<◌, ◌≤◌, Bool, true, false, cond, ltb, leb, ◌||◌, List, [], ◌∷◌, ◌++◌, length, get_or, map, refl, sym, ap, ◌∙◌, subst, arith}
use Rattle.std.specs.Prelude.{slice_index}
use Rattle.std.specs.List.{range_with_len}
use Rattle.std.proofs.lemmas.Bool.{ltb-true, ltb-false, leb-true, leb-false, eqb-true}
use Rattle.std.proofs.lemmas.List.{ext_get_or, get_or-map, length-map, get_or_append_left, length-append}
use Rattle.std.proofs.lemmas.List.Elements.{AllZip-get_or, length_all_zip}
use Rattle.std.proofs.lemmas.List.FromFn.{length-map-range_with_len, get_or-map-range_with_len}
use Rattle.fourvec.specs.declared.Bit.{Bit}
use Rattle.fourvec.specs.declared.Bit.TheVariants.{Unknown}
use Rattle.fourvec.specs.Bits.{all_pairs}
use Rattle.fourvec.specs.Laws.{Below}
use Rattle.fourvec.proofs.Order.{below-refl as vector-refl}
use Rattle.fourvec.proofs.Tables.{left_of, right_of}
use Rattle.lhs_alias.specs.declared.segs.Seg.{Seg}
use Rattle.lhs_alias.specs.declared.segs.WireBit.{WireBit}
use Rattle.lhs_alias.specs.Segs.{bit}
use Rattle.lhs_alias.specs.Lies.{IsBitOf, LiesIn}
use Rattle.lhs_alias.specs.Pairs.{IsFirst}
use Rattle.lhs_alias.specs.Joined.{Kept, Stands, first_of}
use Rattle.lhs_alias.proofs.Chains.{first-unique}
use Rattle.settling.specs.Settling.{Store, Link, first_bit, same_bit, lesser}
use Rattle.settling.specs.Least.{Under}
use Rattle.settling.proofs.Classes.{joined-first, first-joined, same-name}
use Rattle.svex_shape.specs.declared.shape.Shape.{Shape}
use Rattle.svex_shape.specs.declared.shape.VarName.TheVariants.{Now, Prev, Stim, Chosen, Sampled}
use Rattle.svex_shape.specs.Values.{value_at, IsBelowWhere}
use Rattle.svex_arena.specs.Arenas.{IsArena}
use Rattle.svex_arena.proofs.Widths.{length-value_at}
use Rattle.svex_arena.proofs.Lifted.{values_rise}
use Rattle.driver_resolve.specs.Drivers.{reading, wire_bits, is_wire}
use Rattle.net_equations.specs.Equations.{phase_of, is_of_phase, has_bit, seg_at}
use Rattle.compose_rounds.specs.Rounds.{found, store_of, IsSystem}
use Rattle.compose_rounds.specs.Sources.{IsSource, source_value, source_bit}
use Rattle.compose_rounds.specs.States.{outer_reading, shown, gives_of, IsProblem}
use Rattle.compose_rounds.specs.Wires.{IsNodeOf}
use Rattle.compose_rounds.proofs.Found.{in-seg, found-at, found-none}
use Rattle.compose_rounds.proofs.Making.{phase-widths}

-- ---- the first bit of a class

lesser-left : (a b : WireBit) → (lesser a b).wire ≤ a.wire
lesser-left a b = pick (leb a.wire b.wire) refl
  where
    pick : (t : Bool) → leb a.wire b.wire ≡ t → (cond t a b).wire ≤ a.wire
    pick true e = omega arith
    pick false e = let lt = leb-false a.wire b.wire e in omega (arith, lt)

lesser-right : (a b : WireBit) → (lesser a b).wire ≤ b.wire
lesser-right a b = pick (leb a.wire b.wire) refl
  where
    pick : (t : Bool) → leb a.wire b.wire ≡ t → (cond t a b).wire ≤ b.wire
    pick true e = leb-true a.wire b.wire e
    pick false e = omega arith

first-least : (links : List Link) (b : WireBit) → (first_bit links b).wire ≤ b.wire
unfolding first_bit
first-least [] b = omega arith
first-least (l ∷ more) b = go (same_bit (first_bit more b) (first_bit more l.0)) (same_bit (first_bit more b) (first_bit more l.1)) refl refl (first-least more b)
  where
    go : (p q : Bool) → same_bit (first_bit more b) (first_bit more l.0) ≡ p → same_bit (first_bit more b) (first_bit more l.1) ≡ q
        → (first_bit more b).wire ≤ b.wire → (cond (p || q) (lesser (first_bit more l.0) (first_bit more l.1)) (first_bit more b)).wire ≤ b.wire
    go true q e f h =
        let w = lesser-left (first_bit more l.0) (first_bit more l.1) in
        omega (arith, ap (λ x. x.wire) (same-name (first_bit more b) (first_bit more l.0) e), w, h)
    go false true e f h =
        let w = lesser-right (first_bit more l.0) (first_bit more l.1) in
        omega (arith, ap (λ x. x.wire) (same-name (first_bit more b) (first_bit more l.1) f), w, h)
    go false false e f h = h

is-first : (links : List Link) (b : WireBit) → IsFirst links b (first_bit links b)
is-first links b = record {
  linked = joined-first links b;
  least = λ c l. subst (λ f. f.wire ≤ c.wire) (sym (first-joined links b c l)) (first-least links c);
}

pub first-as : (kept : Kept) (links : List Link) → Stands kept links → (b : WireBit) → IsBitOf kept.widths b → first_of kept b ≡ first_bit links b
first-as kept links s b inside = first-unique links s.falls s.own_children b (first_of kept b) (first_bit links b) (s.first b inside) (is-first links b)

-- ---- equations as a system

pub wire-bit : (widths : List ℕ) (n w k : ℕ) → is_wire widths n w ≡ true → k < w → IsBitOf widths (bit n k)
wire-bit widths n w k h lt =
    let same : get_or widths n 0 ≡ w = eqb-true (get_or widths n 0) w (right_of _ _ h) in
    record { wire = ltb-true n (length widths) (left_of _ _ h); place = omega (arith, same, lt) }

seg-bit : (widths : List ℕ) (s : Seg) (b : WireBit) → LiesIn widths s → has_bit s b ≡ true → IsBitOf widths b
seg-bit widths s b h has =
    let is = in-seg s b has in
    record {
      wire = subst (λ n. n < length widths) is.wire h.wire;
      place = let ends : s.lo + s.width ≤ slice_index widths b.wire = subst (λ n. s.lo + s.width ≤ slice_index widths n) is.wire h.ends in omega (arith, ends, is.high);
    }

pub front : (segs free : List Seg) (i : ℕ) → i < length segs → seg_at (segs ++ free) i ≡ seg_at segs i
front segs free i lt = get_or_append_left segs free _ i lt

more-than : (segs free : List Seg) (i : ℕ) → i < length segs → i < length (segs ++ free)
more-than segs free i lt = omega (arith, lt, length-append segs free)

vectors-rise : (s t : Store) → Under s t → (n k w : ℕ) → Below (map (s n) (range_with_len k w)) (map (t n) (range_with_len k w))
unfolding all_pairs
vectors-rise s t h n k zero = refl
vectors-rise s t h n k (suc w) = rw (h n k) (vectors-rise s t h n (k + 1) w)

readings-rise : (widths : List ℕ) (stim previous s t : Store) → Under s t → IsBelowWhere (is_of_phase widths) (reading (phase_of stim previous s)) (reading (phase_of stim previous t))
readings-rise widths stim previous s t h (Now n) w e = vectors-rise s t h n 0 w
readings-rise widths stim previous s t h (Prev n) w e = vector-refl _
readings-rise widths stim previous s t h (Stim n) w e = vector-refl _
readings-rise widths stim previous s t h (Chosen j) w e = cc
readings-rise widths stim previous s t h (Sampled j) w e = cc

pub system-of : (kept : Kept) (shapes : List Shape) (segs free : List Seg) (values : List ℕ) → IsArena shapes → IsProblem kept shapes segs free values
    → (links : List Link) → Stands kept links → (stim previous : Store) → IsSystem links segs (gives_of stim previous shapes values)
system-of kept shapes segs free values a p links s stim previous = record {
  firsts = λ i b lt has.
      let has' : has_bit (seg_at (segs ++ free) i) b ≡ true = subst (λ x. has_bit x b ≡ true) (sym (front segs free i lt)) has in
      let lt' = more-than segs free i lt in
      sym (first-as kept links s b (seg-bit kept.widths (seg_at (segs ++ free) i) b (p.lies i _ lt') has')) ∙ p.firsts i b lt' has';
  apart = λ i j b lt l has h.
      p.apart i j b (more-than segs free i lt) (more-than segs free j l)
      (subst (λ x. has_bit x b ≡ true) (sym (front segs free i lt)) has) (subst (λ x. has_bit x b ≡ true) (sym (front segs free j l)) h);
  wide = λ t i lt. length-value_at (reading (phase_of stim previous t)) shapes (slice_index values i) (phase-widths _) a (p.there i lt) ∙ p.wide i lt;
  rises = λ x y h i lt. values_rise (is_of_phase kept.widths) (reading (phase_of stim previous x)) (reading (phase_of stim previous y)) shapes (slice_index values i) a
      (λ name w t. phase-widths (phase_of stim previous x) name w) (readings-rise kept.widths stim previous x y h) (p.there i lt) (p.mentions i lt);
}

-- ---- the value of a wire

source-found : (kept : Kept) (shapes : List Shape) (segs free : List Seg) (values nodes : List ℕ) → IsProblem kept shapes segs free values → length nodes ≡ length segs
    → (stim previous : Store) (c b : WireBit) → IsSource (segs ++ free) c b
    → source_bit (outer_reading stim previous) shapes nodes b ≡ found segs (shown stim previous shapes nodes) c
unfolding source_bit source_value
source-found kept shapes segs free values nodes p size stim previous c b h = pick (ltb b.wire (length nodes)) refl
  where
    pick : (t : Bool) → ltb b.wire (length nodes) ≡ t
        → get_or (cond t (value_at (outer_reading stim previous) shapes (slice_index nodes b.wire)) []) b.at Unknown ≡ found segs (shown stim previous shapes nodes) c
    pick true e =
        let lt : b.wire < length segs = omega (arith, ltb-true _ _ e, size) in
        let same = front segs free b.wire lt in
        let has : has_bit (seg_at segs b.wire) c ≡ true = subst (λ x. has_bit x c ≡ true) same h.has in
        let place : b.at ≡ c.at - (seg_at segs b.wire).lo = omega (arith, h.place, ap (λ x. x.lo) same) in
        ap (λ k. get_or (value_at (outer_reading stim previous) shapes (slice_index nodes b.wire)) k Unknown) place
        ∙ sym (found-at segs (shown stim previous shapes nodes) c b.wire lt has
        (λ j l k. p.apart j b.wire c (more-than segs free j l) h.within (subst (λ x. has_bit x c ≡ true) (sym (front segs free j l)) k) h.has))
    pick false e =
        sym (found-none segs (shown stim previous shapes nodes) c
        (λ j l k.
        let is : j ≡ b.wire = p.apart j b.wire c (more-than segs free j l) h.within (subst (λ x. has_bit x c ≡ true) (sym (front segs free j l)) k) h.has in
        let not = ltb-false _ _ e in
        omega (arith, l, is, not, size)))

pub wire-value : (kept : Kept) (old new : List Shape) (segs free : List Seg) (values nodes : List ℕ) → IsProblem kept old segs free values → length nodes ≡ length segs
    → (links : List Link) → Stands kept links → (n w node : ℕ) → is_wire kept.widths n w ≡ true → IsNodeOf kept (segs ++ free) old new nodes n w node
    → (stim previous : Store) → value_at (outer_reading stim previous) new node ≡ reading (phase_of stim previous (store_of links segs (shown stim previous old nodes))) (Now n) w
unfolding store_of
wire-value kept old new segs free values nodes p size links s n w node wire h stim previous =
    let v = shown stim previous old nodes in
    let f = source_bit (outer_reading stim previous) old nodes in
    let g : ℕ → Bit = λ k. found segs v (first_bit links (bit n k)) in
    let firsts = map (first_of kept) (wire_bits n w) in
    let wide : length (wire_bits n w) ≡ w = length-map-range_with_len (bit n) 0 w in
    let long : length h.bits ≡ w = sym (length_all_zip (IsSource (segs ++ free)) firsts h.bits h.sources) ∙ length-map (wire_bits n w) (first_of kept) ∙ wide in
    h.made.value stim previous
    ∙ ext_get_or Unknown (map f h.bits) (map g (range_with_len 0 w)) (length-map h.bits f ∙ long ∙ sym (length-map-range_with_len g 0 w))
    (λ k l.
    let lt : k < w = omega (arith, l, length-map h.bits f, long) in
    let c : get_or firsts k (bit 0 0) ≡ first_bit links (bit n k) =
    get_or-map (first_of kept) (wire_bits n w) k (bit 0 0) (bit 0 0) (omega (arith, lt, wide))
    ∙ ap (first_of kept) (get_or-map-range_with_len (bit n) 0 w k k (bit 0 0) lt (omega arith))
    ∙ first-as kept links s (bit n k) (wire-bit kept.widths n w k wire lt) in
    get_or-map f h.bits k (bit 0 0) Unknown (omega (arith, lt, long))
    ∙ source-found kept old segs free values nodes p size stim previous (get_or firsts k (bit 0 0)) (get_or h.bits k (bit 0 0))
    (AllZip-get_or (IsSource (segs ++ free)) firsts h.bits k (bit 0 0) (bit 0 0) h.sources (omega (arith, lt, length-map (wire_bits n w) (first_of kept), wide)))
    ∙ ap (found segs v) c
    ∙ sym (get_or-map-range_with_len g 0 w k k Unknown lt (omega arith)))
