-- Nodes of bits of segments' values.
use Rattle.std.proofs.Common.{◌≡◌, ℕ, zero, suc, ◌+◌, ◌<◌, ◌≤◌, Bool, true, false, cond, ltb, List, [], ◌++◌, length, get_or, map, take, drop, refl, sym, ap, ◌∙◌, subst, arith, replicate, take-append-drop, Result, Ok, Err}
use Rattle.std.specs.Prelude.{slice_index, All, IfOk}
use Rattle.std.proofs.lemmas.Bool.{ltb-true, lt-ltb, le-ltb}
use Rattle.std.proofs.lemmas.List.{ext_get_or, get_or-map, length-map, get_or-take, get_or-drop, length-take, length-drop, map-append, length-append, length-replicate}
use Rattle.std.proofs.lemmas.List.FromFn.{length-map-range_with_len}
use Rattle.fourvec.specs.declared.Bit.{Bit}
use Rattle.fourvec.specs.declared.Bit.TheVariants.{Unknown}
use Rattle.fourvec.specs.Bits.{all_x}
use Rattle.fourvec.proofs.Order.{both}
use Rattle.lhs_alias.specs.declared.segs.Seg.{Seg}
use Rattle.lhs_alias.specs.declared.segs.WireBit.{WireBit}
use Rattle.lhs_alias.specs.Segs.{bit, seg_bits, lhs_bits, IsSeg}
use Rattle.lhs_alias.proofs.SegBits.{get_or-seg_bits, length-seg_bits, lhs_bits-append, lhs_bits-take_more}
use Rattle.svex_shape.specs.declared.shape.Shape.{Shape}
use Rattle.svex_shape.specs.declared.shape.Shape.TheVariants.{Const, Binary, Slice}
use Rattle.svex_shape.specs.declared.shape.Bin.TheVariants.{Concat}
use Rattle.svex_shape.specs.Shapes.{shape_at, width_at, width_of}
use Rattle.svex_shape.specs.Values.{Vector, Reading, HasWidths, value_at, value_of, each_variable, each_variable_of}
use Rattle.svex_arena.specs.Arenas.{IsArena, Extends}
use Rattle.svex_arena.proofs.Steps.{value_follows, variables_follow, width_follows, value-extends, variables-extends, width-extends}
use Rattle.svex_arena.proofs.Widths.{length-value_at}
use Rattle.svex_rewrite.specs.Meaning.{IsOver, Makes}
use Rattle.driver_resolve.specs.Drivers.{Phase, reading, bits_in}
use Rattle.compose_rounds.specs.Sources.{source_value, source_bit}
use Rattle.compose_rounds.specs.States.{AreOuter, is_outer, outer_reading}
use Rattle.compose_rounds.specs.Wires.{AreThere, HasPart, IsMade, IsJoined}

-- each reading of a phase has widths
pub phase-widths : (p : Phase) → HasWidths (reading p)
phase-widths p name w = length-map-range_with_len (bits_in p name) 0 w

pub there_kept : (old new : List Shape) (nodes : List ℕ) → Extends old new → AreThere old nodes → AreThere new nodes
there_kept old new nodes e h = record { there = λ i lt. omega (arith, h.there i lt, e.longer) }

pub part_kept : (old new : List Shape) (nodes : List ℕ) (piece : Seg) → Extends old new → AreThere old nodes → HasPart old nodes piece → HasPart new nodes piece
part_kept old new nodes piece e t h = record {
  ends = λ lt. let w = width-extends old new (slice_index nodes piece.wire) e (t.there piece.wire lt) in let k = h.ends lt in omega (arith, w, k);
}

-- ---- the bits of one segment

pub source-in : (r : Reading) (shapes : List Shape) (nodes : List ℕ) (i k : ℕ) → i < length nodes
    → source_bit r shapes nodes (bit i k) ≡ get_or (value_at r shapes (slice_index nodes i)) k Unknown
unfolding source_bit source_value
source-in r shapes nodes i k lt = ap (λ (t : Bool). get_or (cond t (value_at r shapes (slice_index nodes i)) []) k Unknown) (lt-ltb i (length nodes) lt)

pub source-past : (r : Reading) (shapes : List Shape) (nodes : List ℕ) (i k : ℕ) → length nodes ≤ i → source_bit r shapes nodes (bit i k) ≡ Unknown
unfolding source_bit source_value
source-past r shapes nodes i k le = ap (λ (t : Bool). get_or (cond t (value_at r shapes (slice_index nodes i)) []) k Unknown) (le-ltb i (length nodes) le)

part-bits : (v : Vector) (f : WireBit → Bit) (piece : Seg) → piece.lo + piece.width ≤ length v
    → ((k : ℕ) → f (bit piece.wire k) ≡ get_or v k Unknown) → take piece.width (drop piece.lo v) ≡ map f (seg_bits piece)
part-bits v f piece fits h =
    let left = take piece.width (drop piece.lo v) in
    let long : length left ≡ piece.width = omega (arith, length-take piece.width (drop piece.lo v), length-drop piece.lo v, fits) in
    ext_get_or Unknown left (map f (seg_bits piece)) (long ∙ sym (length-map (seg_bits piece) f ∙ length-seg_bits piece))
    (λ k lt.
    let within : k < piece.width = omega (arith, lt, long) in
    get_or-take piece.width (drop piece.lo v) k Unknown within
    ∙ get_or-drop piece.lo v k Unknown
    ∙ sym (h (piece.lo + k))
    ∙ ap f (sym (get_or-seg_bits piece k (bit 0 0) within))
    ∙ sym (get_or-map f (seg_bits piece) k (bit 0 0) Unknown (omega (arith, within, length-seg_bits piece))))

unknown-bits : (f : WireBit → Bit) (piece : Seg) → ((k : ℕ) → f (bit piece.wire k) ≡ Unknown) → all_x piece.width ≡ map f (seg_bits piece)
unknown-bits f piece h =
    let all : Vector = all_x piece.width in
    let wide : length all ≡ piece.width = length-replicate piece.width Unknown in
    ext_get_or Unknown all (map f (seg_bits piece)) (wide ∙ sym (length-map (seg_bits piece) f ∙ length-seg_bits piece))
    (λ k lt.
    let within : k < piece.width = omega (arith, lt, wide) in
    get-unknown piece.width k
    ∙ sym (h (piece.lo + k))
    ∙ ap f (sym (get_or-seg_bits piece k (bit 0 0) within))
    ∙ sym (get_or-map f (seg_bits piece) k (bit 0 0) Unknown (omega (arith, within, length-seg_bits piece))))
  where
    get-unknown : (n k : ℕ) → get_or (replicate n Unknown) k Unknown ≡ Unknown
    get-unknown zero k = refl
    get-unknown (suc n) zero = refl
    get-unknown (suc n) (suc k) = get-unknown n k

pub slice_over : (shapes : List Shape) (nodes : List ℕ) (piece : Seg) (of : ℕ) → IsArena shapes → IsSeg piece → AreThere shapes nodes → HasPart shapes nodes piece → piece.wire < length nodes → of ≡ slice_index nodes piece.wire
    → IsOver shapes (Slice of piece.lo piece.width)
slice_over shapes nodes piece of a s t h lt is =
    let ends = h.ends lt in
    let there = t.there piece.wire lt in
    record {
      arena = a;
      children = omega (arith, is, there);
      fits = (omega (arith, s.some), subst (λ n. piece.lo + piece.width ≤ width_at shapes n) (sym is) ends);
    }

pub slice_made : (old new : List Shape) (nodes : List ℕ) (piece : Seg) (of n : ℕ) → IsArena old → AreThere old nodes → HasPart old nodes piece → piece.wire < length nodes → of ≡ slice_index nodes piece.wire
    → Makes old (Slice of piece.lo piece.width) new n → IsMade old new nodes (seg_bits piece) n
unfolding value_of each_variable_of width_of
slice_made old new nodes piece of n a t h lt is m =
    let there : of < length old = omega (arith, is, t.there piece.wire lt) in
    record {
      there = m.within;
      wide = m.width ∙ sym (length-seg_bits piece);
      value = λ stim previous.
          let r = outer_reading stim previous in
          let ends : piece.lo + piece.width ≤ width_at old of = subst (λ x. piece.lo + piece.width ≤ width_at old x) (sym is) (h.ends lt) in
          m.value r (phase-widths _)
          ∙ part-bits (value_at r old of) (source_bit r old nodes) piece (omega (arith, ends, length-value_at r old of (phase-widths _) a there))
          (λ k. source-in r old nodes piece.wire k lt ∙ ap (λ x. get_or (value_at r old x) k Unknown) (sym is));
      outer = λ widths all. m.mentions (is_outer widths) (ap (each_variable (is_outer widths) old) is ∙ (all piece.wire lt).mentions);
    }

pub free_made : (old new : List Shape) (nodes : List ℕ) (piece : Seg) (n : ℕ) → IsArena new → length nodes ≤ piece.wire → n < length new → shape_at new n ≡ Const (all_x piece.width)
    → IsMade old new nodes (seg_bits piece) n
unfolding value_of each_variable_of width_of
free_made old new nodes piece n b le lt shape = record {
  there = lt;
  wide = width_follows new n b lt ∙ ap (width_of (width_at new)) shape ∙ length-replicate piece.width Unknown ∙ sym (length-seg_bits piece);
  value = λ stim previous.
      let r = outer_reading stim previous in
      value_follows r new n b lt
      ∙ ap (value_of r (value_at r new)) shape
      ∙ unknown-bits (source_bit r old nodes) piece (λ k. source-past r old nodes piece.wire k le);
  outer = λ widths all. variables_follow (is_outer widths) new n b lt ∙ ap (each_variable_of (is_outer widths) (each_variable (is_outer widths) new)) shape;
}

-- ---- more bits below

pub concat_over : (shapes : List Shape) (high low : ℕ) → IsArena shapes → high < length shapes → low < length shapes → width_at shapes high + width_at shapes low ≤ 128 → IsOver shapes (Binary Concat high low)
concat_over shapes high low a h l fits = record { arena = a; children = (h, l); fits = fits }

pub above_joined : (old new : List Shape) (high low n : ℕ) → Makes old (Binary Concat high low) new n → IsJoined old new high low n
unfolding value_of each_variable_of width_of
above_joined old new high low n m = record {
  there = m.within;
  wide = m.width;
  value = λ stim previous. m.value (outer_reading stim previous) (phase-widths _);
  variables = λ p h l. m.mentions p (both _ _ h l);
}

-- the bits of segments stay as the arena grows
pub source-kept : (r : Reading) (old new : List Shape) (nodes : List ℕ) → Extends old new → AreThere old nodes → source_bit r new nodes ≡ source_bit r old nodes
unfolding source_bit source_value
source-kept r old new nodes e h j b = ap (λ v. get_or v b.at Unknown) (pick (ltb b.wire (length nodes)) refl) j
  where
    pick : (t : Bool) → ltb b.wire (length nodes) ≡ t → cond t (value_at r new (slice_index nodes b.wire)) [] ≡ cond t (value_at r old (slice_index nodes b.wire)) []
    pick true k = value-extends r old new (slice_index nodes b.wire) e (h.there b.wire (ltb-true b.wire (length nodes) k))
    pick false k = refl

pub outer_kept : (widths : List ℕ) (old new : List Shape) (nodes : List ℕ) → Extends old new → AreOuter widths old nodes → AreOuter widths new nodes
outer_kept widths old new nodes e h i lt = record {
  there = omega (arith, (h i lt).there, e.longer);
  mentions = variables-extends (is_outer widths) old new (slice_index nodes i) e (h i lt).there ∙ (h i lt).mentions;
}

pub made_since : (base old new : List Shape) (nodes : List ℕ) (bits : List WireBit) (n : ℕ) → Extends base old → AreThere base nodes → IsMade old new nodes bits n → IsMade base new nodes bits n
made_since base old new nodes bits n e h m = record {
  there = m.there;
  wide = m.wide;
  value = λ stim previous. m.value stim previous ∙ ap (λ f. map f bits) (source-kept (outer_reading stim previous) base old nodes e h);
  outer = λ widths all. m.outer widths (outer_kept widths base old nodes e all);
}

pub made_kept : (base old new : List Shape) (nodes : List ℕ) (bits : List WireBit) (n : ℕ) → Extends old new → IsMade base old nodes bits n → IsMade base new nodes bits n
made_kept base old new nodes bits n e m = record {
  there = omega (arith, m.there, e.longer);
  wide = width-extends old new n e m.there ∙ m.wide;
  value = λ stim previous. value-extends (outer_reading stim previous) old new n e m.there ∙ m.value stim previous;
  outer = λ widths all. variables-extends (is_outer widths) old new n e m.there ∙ m.outer widths all;
}

pub put_below_made : (base old mid new : List Shape) (nodes : List ℕ) (bits : List WireBit) (piece : Seg) (made low n : ℕ) → Extends base old → AreThere base nodes → Extends old mid
    → IsMade base old nodes bits made → IsMade old mid nodes (seg_bits piece) low → IsJoined mid new made low n → IsMade base new nodes (seg_bits piece ++ bits) n
put_below_made base old mid new nodes bits piece made low n e h f m l j =
    let below = made_since base old mid nodes (seg_bits piece) low e h l in
    let high = made_kept base old mid nodes bits made f m in
    record {
      there = j.there;
      wide = let w = j.wide in omega (arith, w, high.wide, below.wide, length-append (seg_bits piece) bits);
      value = λ stim previous.
          let r = outer_reading stim previous in
          j.value stim previous ∙ (λ k. below.value stim previous k ++ high.value stim previous k) ∙ sym (map-append (source_bit r base nodes) (seg_bits piece) bits);
      outer = λ widths all. j.variables (is_outer widths) (high.outer widths all) (below.outer widths all);
    }

pub below_all : {E : Type 0} → (old mid new : List Shape) (nodes : List ℕ) (piece : Seg) (made low : ℕ) (r : Result ℕ E) → Extends old mid → IsMade old mid nodes (seg_bits piece) low → IfOk r (λ n. IsJoined mid new made low n)
    → IfOk r (λ n. (base : List Shape) (bits : List WireBit) → Extends base old → AreThere base nodes → IsMade base old nodes bits made → IsMade base new nodes (seg_bits piece ++ bits) n)
below_all old mid new nodes piece made low (Ok n) f l j = λ base bits e h m. put_below_made base old mid new nodes bits piece made low n e h f m l j
below_all old mid new nodes piece made low (Err x) f l j = tt

-- ---- the pieces of a list

pub parts_kept : (old new : List Shape) (nodes : List ℕ) (pieces : List Seg) → Extends old new → AreThere old nodes → All (HasPart old nodes) pieces → All (HasPart new nodes) pieces
parts_kept old new nodes pieces e t h = λ k d lt. part_kept old new nodes (get_or pieces k d) e t (h k d lt)

take-bits : (pieces : List Seg) (at : ℕ) → length (lhs_bits (take at pieces)) ≤ length (lhs_bits pieces)
take-bits pieces at =
    let whole = lhs_bits-append (take at pieces) (drop at pieces) in
    let all : lhs_bits pieces ≡ lhs_bits (drop at pieces) ++ lhs_bits (take at pieces) = ap lhs_bits (sym (take-append-drop at pieces)) ∙ whole in
    let l = length-append (lhs_bits (drop at pieces)) (lhs_bits (take at pieces)) in
    omega (arith, ap length all, l)

pub gather_fits : (base shapes : List Shape) (nodes : List ℕ) (pieces : List Seg) (at made : ℕ) → at < length pieces → length (lhs_bits pieces) ≤ 128 → IsMade base shapes nodes (lhs_bits (take at pieces)) made
    → width_at shapes made + (get_or pieces at (record { wire = 0; lo = 0; width = 0 })).width ≤ 128
gather_fits base shapes nodes pieces at made lt most m =
    let none : Seg = record { wire = 0; lo = 0; width = 0 } in
    let more = ap length (lhs_bits-take_more pieces at none lt) in
    let split = length-append (seg_bits (get_or pieces at none)) (lhs_bits (take at pieces)) in
    omega (arith, m.wide, more, split, length-seg_bits (get_or pieces at none), take-bits pieces (at + 1), most)
