-- Nodes that stand for others.
use Rattle.std.proofs.Common.{◌≡◌, ℕ, ◌+◌, ◌-◌, ◌<◌, Bool, true, false, not, List, ◌++◌, length, get_or, map, All, refl, sym, ap, ◌∙◌, subst, inl, inr, arith}
use Rattle.std.specs.Prelude.{slice_index}
use Rattle.std.specs.List.{AllZip, range_with_len}
use Rattle.std.proofs.lemmas.List.{get_or_default, ext_get_or, get_or-map, length-map, length-append}
use Rattle.std.proofs.lemmas.List.Elements.{AllZip-get_or, length_all_zip, All-get_or}
use Rattle.std.proofs.lemmas.List.FromFn.{length-map-range_with_len, get_or-map-range_with_len}
use Rattle.fourvec.specs.declared.Bit.{Bit}
use Rattle.fourvec.specs.declared.Bit.TheVariants.{Unknown}
use Rattle.lhs_alias.specs.declared.segs.Seg.{Seg}
use Rattle.lhs_alias.specs.declared.segs.WireBit.{WireBit}
use Rattle.lhs_alias.specs.Segs.{bit, lhs_bits, AreSegs}
use Rattle.lhs_alias.proofs.SegBits.{get_or-seg_bits, length-seg_bits}
use Rattle.lhs_alias.specs.Joined.{Kept, Stands, first_of}
use Rattle.settling.specs.Settling.{Store, Link, first_bit}
use Rattle.svex_shape.specs.declared.shape.Shape.{Shape}
use Rattle.svex_shape.specs.declared.shape.Shape.TheVariants.{Var}
use Rattle.svex_shape.specs.declared.shape.VarName.{VarName}
use Rattle.svex_shape.specs.declared.shape.VarName.TheVariants.{Now, Prev, Stim, Chosen, Sampled}
use Rattle.svex_shape.specs.Shapes.{shape_at, width_at, width_of}
use Rattle.svex_shape.specs.Values.{Vector, value_at, value_of, each_variable, each_variable_of}
use Rattle.svex_arena.specs.Arenas.{IsArena, Extends}
use Rattle.svex_arena.specs.Marks.{IsMarked}
use Rattle.svex_arena.proofs.Steps.{value_follows, variables_follow, width_follows, value-extends, width-extends}
use Rattle.driver_resolve.specs.Drivers.{reading, wire_bits, is_wire}
use Rattle.net_equations.specs.Equations.{phase_of, is_of_phase, has_bit, seg_at}
use Rattle.compose_rounds.specs.Rounds.{found, store_of}
use Rattle.compose_rounds.specs.Sources.{IsSource}
use Rattle.compose_rounds.specs.States.{AreOuter, is_outer, outer_reading, shown, IsProblem, IsGrown}
use Rattle.compose_rounds.specs.Wires.{HasPart, IsMade, IsNodeOf}
use Rattle.compose_rounds.specs.Answers.{AgreesWith, StandsIn}
use Rattle.compose_rounds.proofs.Found.{in-seg, found-alike}
use Rattle.compose_rounds.proofs.Placing.{bits-of-one}
use Rattle.compose_rounds.proofs.Rounding.{store-alike}
use Rattle.compose_rounds.proofs.Systems.{first-as, wire-bit, front, wire-value}

pub shown-kept : (widths : List ℕ) (old new : List Shape) (nodes : List ℕ) → Extends old new → AreOuter widths old nodes → (stim previous : Store) (i : ℕ) → i < length nodes
    → shown stim previous new nodes i ≡ shown stim previous old nodes i
shown-kept widths old new nodes e h stim previous i lt = value-extends (outer_reading stim previous) old new (slice_index nodes i) e (h i lt).there

-- ---- a wire

-- the present value of a wire is the same over values of segments that agree where its bits come from
module _ (kept : Kept) (shapes : List Shape) (segs free : List Seg) (values : List ℕ) (settled : List Bool) (p : IsProblem kept shapes segs free values) (size : length settled ≡ length segs)
    (links : List Link) (s : Stands kept links) (n w : ℕ) (bits : List WireBit) (wire : is_wire kept.widths n w ≡ true) (sources : AllZip (IsSource (segs ++ free)) (map (first_of kept) (wire_bits n w)) bits) where
  same-bit : All (λ b. b.wire < length settled → IsMarked settled b.wire) bits → (k : ℕ) → k < w → (v u : ℕ → Vector) → AgreesWith settled false segs v u
      → found segs v (first_bit links (bit n k)) ≡ found segs u (first_bit links (bit n k))
  same-bit marked k lt v u same =
      let c = first_bit links (bit n k) in
      let firsts = map (first_of kept) (wire_bits n w) in
      let wide : length (wire_bits n w) ≡ w = length-map-range_with_len (bit n) 0 w in
      let all : length firsts ≡ w = length-map (wire_bits n w) (first_of kept) ∙ wide in
      let long : length bits ≡ w = sym (length_all_zip (IsSource (segs ++ free)) firsts bits sources) ∙ all in
      let first : get_or firsts k (bit 0 0) ≡ c =
      get_or-map (first_of kept) (wire_bits n w) k (bit 0 0) (bit 0 0) (omega (arith, lt, wide))
      ∙ ap (first_of kept) (get_or-map-range_with_len (bit n) 0 w k k (bit 0 0) lt (omega arith))
      ∙ first-as kept links s (bit n k) (wire-bit kept.widths n w k wire lt) in
      let b = get_or bits k (bit 0 0) in
      let source : IsSource (segs ++ free) c b = subst (λ x. IsSource (segs ++ free) x b) first
      (AllZip-get_or (IsSource (segs ++ free)) firsts bits k (bit 0 0) (bit 0 0) sources (omega (arith, lt, all))) in
      let mark : b.wire < length settled → IsMarked settled b.wire = All-get_or (λ x. x.wire < length settled → IsMarked settled x.wire) bits k (bit 0 0) (omega (arith, lt, long)) marked in
      found-alike segs v u c
      (λ i l has.
      let is : i ≡ b.wire = p.apart i b.wire c (omega (arith, l, length-append segs free)) source.within (subst (λ x. has_bit x c ≡ true) (sym (front segs free i l)) has) source.has in
      sym (same i l (inr (subst (IsMarked settled) (sym is) (mark (omega (arith, l, is, size)))))))

  pub wire-rests : (loose : Bool) → (loose ≡ false → All (λ b. b.wire < length settled → IsMarked settled b.wire) bits) → (stim previous : Store) (v u : ℕ → Vector) → AgreesWith settled loose segs v u
      → reading (phase_of stim previous (store_of links segs v)) (Now n) w ≡ reading (phase_of stim previous (store_of links segs u)) (Now n) w
  unfolding store_of
  wire-rests true marked stim previous v u same =
      ap (λ t. reading (phase_of stim previous t) (Now n) w) (store-alike links segs v u (λ i lt. sym (same i lt (inl refl))))
  wire-rests false marked stim previous v u same =
      let f : ℕ → Bit = λ k. found segs v (first_bit links (bit n k)) in
      let g : ℕ → Bit = λ k. found segs u (first_bit links (bit n k)) in
      ext_get_or Unknown (map f (range_with_len 0 w)) (map g (range_with_len 0 w)) (length-map-range_with_len f 0 w ∙ sym (length-map-range_with_len g 0 w))
      (λ k l.
      let lt : k < w = omega (arith, l, length-map-range_with_len f 0 w) in
      get_or-map-range_with_len f 0 w k k Unknown lt (omega arith)
      ∙ same-bit (marked refl) k lt v u same
      ∙ sym (get_or-map-range_with_len g 0 w k k Unknown lt (omega arith)))

variable-width : (shapes : List Shape) (k : ℕ) (name : VarName) (w : ℕ) → IsArena shapes → k < length shapes → shape_at shapes k ≡ Var name w → width_at shapes k ≡ w
unfolding width_of
variable-width shapes k name w a lt is = width_follows shapes k a lt ∙ ap (width_of (width_at shapes)) is

variable-value : (r : VarName → ℕ → Vector) (shapes : List Shape) (k : ℕ) (name : VarName) (w : ℕ) → IsArena shapes → k < length shapes → shape_at shapes k ≡ Var name w → value_at r shapes k ≡ r name w
unfolding value_of
variable-value r shapes k name w a lt is = value_follows r shapes k a lt ∙ ap (value_of r (value_at r shapes)) is

pub wire_stands : (kept : Kept) (old new : List Shape) (segs free : List Seg) (values nodes : List ℕ) (settled : List Bool) (loose : Bool) (n w k node : ℕ) → IsArena old → IsProblem kept old segs free values
    → length nodes ≡ length segs → AreOuter kept.widths old nodes → length settled ≡ length segs → Extends old new → is_wire kept.widths n w ≡ true → (h : IsNodeOf kept (segs ++ free) old new nodes n w node)
    → (loose ≡ false → All (λ b. b.wire < length settled → IsMarked settled b.wire) h.bits) → k < length old → shape_at old k ≡ Var (Now n) w → StandsIn kept new segs nodes settled loose k node
wire_stands kept old new segs free values nodes settled loose n w k node a p size outer marks e wire h marked lt is = record {
  there = h.made.there;
  wide = h.wide ∙ sym (width-extends old new k e lt ∙ variable-width old k (Now n) w a lt is);
  outer = h.made.outer kept.widths outer;
  value = λ links s stim previous u agree.
      let r = reading (phase_of stim previous (store_of links segs u)) in
      wire-value kept old new segs free values nodes p size links s n w node wire h stim previous
      ∙ wire-rests kept old segs free values settled p marks links s n w h.bits wire h.sources loose marked stim previous (shown stim previous old nodes) u
      (λ j l on. agree j l on ∙ shown-kept kept.widths old new nodes e outer stim previous j (omega (arith, l, size)))
      ∙ sym (value-extends r old new k e lt ∙ variable-value r old k (Now n) w a lt is);
}

-- ---- the pieces of a wire

-- where a place has a node, that has the bit
abbrev HasBit : List Shape → List ℕ → WireBit → Type 0
HasBit shapes nodes b = b.wire < length nodes → b.at < width_at shapes (slice_index nodes b.wire)

-- nodes are as wide as the segments
abbrev pub AreWide : List Shape → List Seg → List ℕ → Type 0
AreWide shapes segs nodes = (i : ℕ) → i < length segs → width_at shapes (slice_index nodes i) ≡ (seg_at segs i).width

bits-have : (shapes : List Shape) (segs free : List Seg) (nodes : List ℕ) (firsts bits : List WireBit) → length nodes ≡ length segs → AreWide shapes segs nodes → AllZip (IsSource (segs ++ free)) firsts bits → All (HasBit shapes nodes) bits
bits-have shapes segs free nodes firsts bits size widths sources = λ k d lt on.
    let b = get_or bits k d in
    let c = get_or firsts k (bit 0 0) in
    let source : IsSource (segs ++ free) c b = AllZip-get_or (IsSource (segs ++ free)) firsts bits k (bit 0 0) d sources (omega (arith, lt, length_all_zip (IsSource (segs ++ free)) firsts bits sources)) in
    let inside : b.wire < length segs = omega (arith, on, size) in
    let same = front segs free b.wire inside in
    let is = in-seg (seg_at segs b.wire) c (subst (λ s. has_bit s c ≡ true) same source.has) in
    let place : (seg_at segs b.wire).lo + b.at ≡ c.at = ap (λ s. s.lo + b.at) (sym same) ∙ source.place in
    let wide = widths b.wire inside in
    let high = is.high in
    omega (arith, place, high, wide)

pub parts_of : (shapes : List Shape) (segs free : List Seg) (nodes : List ℕ) (firsts : List WireBit) (pieces : List Seg) → length nodes ≡ length segs → AreWide shapes segs nodes → AreSegs pieces
    → AllZip (IsSource (segs ++ free)) firsts (lhs_bits pieces) → All (HasPart shapes nodes) pieces
parts_of shapes segs free nodes firsts pieces size widths some sources = λ k d lt.
    let none : Seg = record { wire = 0; lo = 0; width = 0 } in
    let piece = get_or pieces k none in
    let last = piece.width - 1 in
    let long = (some k none lt).some in
    let inside : last < piece.width = omega (arith, long) in
    let bits = bits-of-one (HasBit shapes nodes) pieces k lt (bits-have shapes segs free nodes firsts (lhs_bits pieces) size widths sources) in
    let b : HasBit shapes nodes (bit piece.wire (piece.lo + last)) = subst (HasBit shapes nodes) (get_or-seg_bits piece last (bit 0 0) inside) (bits last (bit 0 0) (omega (arith, inside, length-seg_bits piece))) in
    subst (HasPart shapes nodes) (get_or_default pieces k none d lt)
    (record { ends = λ on. let q = b on in omega (arith, q, long) })

pub pieces_wide : (segs : List Seg) (first : WireBit → WireBit) (n w : ℕ) (bits : List WireBit) → AllZip (IsSource segs) (map first (wire_bits n w)) bits → length bits ≡ w
pieces_wide segs first n w bits sources =
    sym (length_all_zip (IsSource segs) (map first (wire_bits n w)) bits sources) ∙ length-map (wire_bits n w) first ∙ length-map-range_with_len (bit n) 0 w

differ : (b : Bool) → not b ≡ false → b ≡ true
differ true e = refl
differ false e = cc

pub pieces_stand : (kept : Kept) (old new : List Shape) (segs free : List Seg) (values nodes : List ℕ) (settled : List Bool) (all : Bool) (n w node : ℕ) (pieces : List Seg) → IsArena old → IsProblem kept old segs free values
    → IsGrown kept old segs values nodes → length settled ≡ length segs → Extends old new → is_wire kept.widths n w ≡ true → AllZip (IsSource (segs ++ free)) (map (first_of kept) (wire_bits n w)) (lhs_bits pieces)
    → (all ≡ true → All (λ b. b.wire < length settled → IsMarked settled b.wire) (lhs_bits pieces)) → IsMade old new nodes (lhs_bits pieces) node
    → (k : ℕ) → k < length old → shape_at old k ≡ Var (Now n) w → StandsIn kept new segs nodes settled (not all) k node
pieces_stand kept old new segs free values nodes settled all n w node pieces a p g marks e wire sources marked made k lt is =
    wire_stands kept old new segs free values nodes settled (not all) n w k node a p g.size g.outer marks e wire
    (record { wide = made.wide ∙ pieces_wide (segs ++ free) (first_of kept) n w (lhs_bits pieces) sources; bits = lhs_bits pieces; sources = sources; made = made })
    (λ t. marked (differ all t)) lt is

-- ---- other variables

-- it is no present variable
abbrev pub is_now : VarName → Bool
is_now (Now n) = true
is_now name = false

outer-name : (widths : List ℕ) (name : VarName) (w : ℕ) → is_now name ≡ false → is_of_phase widths name w ≡ true → is_outer widths name w ≡ true
outer-name widths (Now n) w h t = cc
outer-name widths (Prev n) w h t = t
outer-name widths (Stim n) w h t = t
outer-name widths (Chosen n) w h t = cc
outer-name widths (Sampled n) w h t = cc

same-name : (stim previous s t : Store) (name : VarName) (w : ℕ) → is_now name ≡ false → reading (phase_of stim previous s) name w ≡ reading (phase_of stim previous t) name w
same-name stim previous s t (Now n) w h = cc
same-name stim previous s t (Prev n) w h = refl
same-name stim previous s t (Stim n) w h = refl
same-name stim previous s t (Chosen n) w h = refl
same-name stim previous s t (Sampled n) w h = refl

pub not_now : (name : VarName) → ((n : ℕ) → name ≡ Now n → ⊥) → is_now name ≡ false
not_now (Now n) h = absurd (h n refl)
not_now (Prev n) h = refl
not_now (Stim n) h = refl
not_now (Chosen n) h = refl
not_now (Sampled n) h = refl

pub variable_stands : (kept : Kept) (shapes : List Shape) (segs : List Seg) (nodes : List ℕ) (settled : List Bool) (loose : Bool) (name : VarName) (w k : ℕ) → IsArena shapes → k < length shapes → shape_at shapes k ≡ Var name w
    → is_now name ≡ false → each_variable (is_of_phase kept.widths) shapes k ≡ true → StandsIn kept shapes segs nodes settled loose k k
unfolding each_variable_of
variable_stands kept shapes segs nodes settled loose name w k a lt is other t = record {
  there = lt;
  wide = refl;
  outer = variables_follow (is_outer kept.widths) shapes k a lt ∙ ap (each_variable_of (is_outer kept.widths) (each_variable (is_outer kept.widths) shapes)) is
      ∙ outer-name kept.widths name w other
      (sym (variables_follow (is_of_phase kept.widths) shapes k a lt ∙ ap (each_variable_of (is_of_phase kept.widths) (each_variable (is_of_phase kept.widths) shapes)) is) ∙ t);
  value = λ links s stim previous u agree.
      variable-value (outer_reading stim previous) shapes k name w a lt is ∙ same-name stim previous _ (store_of links segs u) name w other
      ∙ sym (variable-value (reading (phase_of stim previous (store_of links segs u))) shapes k name w a lt is);
}

pub variable_wire : (widths : List ℕ) (shapes : List Shape) (k n w : ℕ) → IsArena shapes → k < length shapes → shape_at shapes k ≡ Var (Now n) w → each_variable (is_of_phase widths) shapes k ≡ true → is_wire widths n w ≡ true
unfolding each_variable_of
variable_wire widths shapes k n w a lt is t =
    sym (variables_follow (is_of_phase widths) shapes k a lt ∙ ap (each_variable_of (is_of_phase widths) (each_variable (is_of_phase widths) shapes)) is) ∙ t
