-- The value of a wire's node in the least solution.
use Rattle.std.proofs.Common.{◌≡◌, ℕ, ◌+◌, ◌<◌, ◌≤◌, true, List, [], ◌∷◌, ◌++◌, length, get_or, map, refl, sym, ap, ◌∙◌, subst, inl, inr, arith}
use Rattle.std.specs.Prelude.{slice_index}
use Rattle.std.specs.List.{AllZip}
use Rattle.std.proofs.lemmas.Bool.{cases_eq, cases_lt, lt-ltb, eq-eqb}
use Rattle.std.proofs.lemmas.List.{ext_get_or, get_or-map, get_or_append_left, get_or_push, length-map, length-append}
use Rattle.std.proofs.lemmas.List.Elements.{AllZip-get_or, length_all_zip}
use Rattle.std.proofs.lemmas.List.FromFn.{length-map-range_with_len, get_or-map-range_with_len}
use Rattle.fourvec.specs.declared.Bit.TheVariants.{Unknown}
use Rattle.fourvec.proofs.Order.{both}
use Rattle.lhs_alias.specs.declared.segs.Seg.{Seg}
use Rattle.lhs_alias.specs.declared.segs.WireBit.{WireBit}
use Rattle.lhs_alias.specs.Segs.{bit, seg_bits}
use Rattle.lhs_alias.specs.Lies.{IsBitOf}
use Rattle.lhs_alias.specs.Joined.{Kept, Stands, first_of}
use Rattle.lhs_alias.proofs.SegBits.{get_or-seg_bits, length-seg_bits}
use Rattle.settling.specs.Settling.{Store, Link, first_bit, value_at as value_in}
use Rattle.settling.specs.Events.{all_unknown}
use Rattle.settling.proofs.Classes.{joined-first}
use Rattle.svex_shape.specs.declared.shape.Shape.{Shape}
use Rattle.svex_shape.specs.declared.shape.VarName.TheVariants.{Now, Prev, Stim, Chosen, Sampled}
use Rattle.svex_shape.specs.Shapes.{width_at}
use Rattle.svex_shape.specs.Values.{AgreesWhere}
use Rattle.svex_arena.specs.Arenas.{IsArena, Extends}
use Rattle.svex_arena.proofs.Steps.{value-extends, variables-extends, width-extends}
use Rattle.svex_arena.proofs.Lifted.{values_alike}
use Rattle.driver_resolve.specs.declared.driver.NetEq.{NetEq}
use Rattle.driver_resolve.specs.declared.driver.Resolved.{Resolved}
use Rattle.driver_resolve.specs.Drivers.{reading, wire_bits, is_wire}
use Rattle.net_equations.specs.Equations.{phase_of, has_bit, seg_at, IsResolved, IsLeastSolution}
use Rattle.compose_rounds.specs.Sources.{Covering, all_segs, HasSource, IsSource, source_bit}
use Rattle.compose_rounds.specs.States.{is_outer, outer_reading}
use Rattle.compose_rounds.specs.Wires.{AreThere, IsNodeOf}
use Rattle.compose_rounds.proofs.Found.{in-seg}
use Rattle.compose_rounds.proofs.Making.{source-in, source-past, outer_kept}
use Rattle.compose_rounds.proofs.Systems.{first-as, wire-bit, front}
use Rattle.svex_compose.specs.Composed.{IsComposed, WasComposed, IsWireNode}

pub outer-agrees : (widths : List ℕ) (stim previous present : Store) → AgreesWhere (is_outer widths) (reading (phase_of stim previous present)) (outer_reading stim previous)
outer-agrees widths stim previous present (Now n) w t = cc
outer-agrees widths stim previous present (Prev n) w t = refl
outer-agrees widths stim previous present (Stim n) w t = refl
outer-agrees widths stim previous present (Chosen n) w t = cc
outer-agrees widths stim previous present (Sampled n) w t = cc

module _ (kept : Kept) (before old : List Shape) (set : Resolved) (nodes : List ℕ) (h : IsResolved kept before set) (comp : IsComposed kept before old set.eqs nodes)
    (links : List Link) (st : Stands kept links) (stim previous now : Store) (least : IsLeastSolution links before set.eqs stim previous now) where
  abbrev segs : List Seg
  segs = map (λ e. e.seg) set.eqs

  count : length segs ≡ length set.eqs
  count = length-map set.eqs (λ e. e.seg)

  -- a bit that comes from an equation
  told : (c b : WireBit) → b.wire < length segs → IsSource (segs ++ set.free) c b → source_bit (outer_reading stim previous) old nodes b ≡ value_in now c
  told c b lt source =
      let seg = seg_at segs b.wire in
      let r = outer_reading stim previous in
      let same = front segs set.free b.wire lt in
      let is = in-seg seg c (subst (λ s. has_bit s c ≡ true) same source.has) in
      let place : seg.lo + b.at ≡ c.at = ap (λ s. s.lo + b.at) (sym same) ∙ source.place in
      let inside : b.at < seg.width = let high = is.high in omega (arith, place, high) in
      let here : bit seg.wire (seg.lo + b.at) ≡ c = λ j. record { wire = is.wire j; at = place j } in
      source-in r old nodes b.wire b.at (let size = comp.size in omega (arith, lt, size, count))
      ∙ ap (λ v. get_or v b.at Unknown) (comp.values links st stim previous now all_unknown least b.wire (omega (arith, lt, count)))
      ∙ get_or-map (value_in now) (seg_bits seg) b.at (bit 0 0) Unknown (omega (arith, inside, length-seg_bits seg))
      ∙ ap (value_in now) (get_or-seg_bits seg b.at (bit 0 0) inside ∙ here)

  -- one that no equation tells
  untold : (a b : WireBit) → IsBitOf kept.widths a → length segs ≤ b.wire → IsSource (segs ++ set.free) (first_of kept a) b → source_bit (outer_reading stim previous) old nodes b ≡ value_in now a
  untold a b inside past source =
      source-past (outer_reading stim previous) old nodes b.wire b.at (let size = comp.size in omega (arith, past, size, count))
      ∙ sym (comp.free links st stim previous now least a inside
      (λ i lt has.
      let l : i < length segs = omega (arith, lt, count) in
      let is : i ≡ b.wire = h.apart i b.wire (first_of kept a) (let n = length-append segs set.free in omega (arith, l, n)) source.within (subst (λ s. has_bit s (first_of kept a) ≡ true) (sym (front segs set.free i l)) has) source.has in
      omega (arith, is, l, past)))

  one-bit : (a b : WireBit) → IsBitOf kept.widths a → IsSource (segs ++ set.free) (first_of kept a) b → source_bit (outer_reading stim previous) old nodes b ≡ value_in now a
  one-bit a b inside source = elim (cases_lt b.wire (length segs)) [
    | inl lt ↦ told (first_of kept a) b lt source ∙ ap (value_in now) (first-as kept links st a inside) ∙ sym (least.solves.even a (first_bit links a) (joined-first links a))
    | inr past ↦ untold a b inside past source
  ]

  pub all-bits : (n w : ℕ) (bits : List WireBit) → is_wire kept.widths n w ≡ true → AllZip (IsSource (segs ++ set.free)) (map (first_of kept) (wire_bits n w)) bits
      → map (source_bit (outer_reading stim previous) old nodes) bits ≡ map (value_in now) (wire_bits n w)
  all-bits n w bits wire sources =
      let f = source_bit (outer_reading stim previous) old nodes in
      let firsts = map (first_of kept) (wire_bits n w) in
      let wide : length (wire_bits n w) ≡ w = length-map-range_with_len (bit n) 0 w in
      let all : length firsts ≡ w = length-map (wire_bits n w) (first_of kept) ∙ wide in
      let long : length bits ≡ w = sym (length_all_zip (IsSource (segs ++ set.free)) firsts bits sources) ∙ all in
      ext_get_or Unknown (map f bits) (map (value_in now) (wire_bits n w)) (length-map bits f ∙ long ∙ sym (length-map (wire_bits n w) (value_in now) ∙ wide))
      (λ k l.
      let lt : k < w = omega (arith, l, length-map bits f, long) in
      let b = get_or bits k (bit 0 0) in
      let here : get_or (wire_bits n w) k (bit 0 0) ≡ bit n k = get_or-map-range_with_len (bit n) 0 w k k (bit 0 0) lt (omega arith) in
      let first : get_or firsts k (bit 0 0) ≡ first_of kept (bit n k) = get_or-map (first_of kept) (wire_bits n w) k (bit 0 0) (bit 0 0) (omega (arith, lt, wide)) ∙ ap (first_of kept) here in
      let source : IsSource (segs ++ set.free) (first_of kept (bit n k)) b = subst (λ x. IsSource (segs ++ set.free) x b) first
      (AllZip-get_or (IsSource (segs ++ set.free)) firsts bits k (bit 0 0) (bit 0 0) sources (omega (arith, lt, all))) in
      get_or-map f bits k (bit 0 0) Unknown (omega (arith, lt, long))
      ∙ one-bit (bit n k) b (wire-bit kept.widths n w k wire lt) source
      ∙ sym (get_or-map (value_in now) (wire_bits n w) k (bit 0 0) Unknown (omega (arith, lt, wide)) ∙ ap (value_in now) here))

pub wire_made : (kept : Kept) (before old mid : List Shape) (set : Resolved) (nodes : List ℕ) (n w node : ℕ) → IsArena mid → IsResolved kept before set → IsComposed kept before old set.eqs nodes → n < length kept.widths → w ≡ slice_index kept.widths n
    → IsNodeOf kept (map (λ (e : NetEq). e.seg) set.eqs ++ set.free) old mid nodes n w node → IsWireNode kept before mid set.eqs n node
wire_made kept before old mid set nodes n w node a h comp lt is made =
    let wire : is_wire kept.widths n w ≡ true = both _ _ (lt-ltb n (length kept.widths) lt) (eq-eqb (slice_index kept.widths n) w (sym is)) in
    let mentions = made.made.outer kept.widths comp.outer in
    record {
      outer = record { there = made.made.there; mentions = mentions };
      wide = made.wide ∙ is;
      value = λ links st stim previous now present least.
          values_alike (is_outer kept.widths) (reading (phase_of stim previous present)) (outer_reading stim previous) mid node a (outer-agrees kept.widths stim previous present) made.made.there mentions
          ∙ made.made.value stim previous
          ∙ all-bits kept before old set nodes h comp links st stim previous now least n w made.bits wire made.sources
          ∙ ap (λ v. map (value_in now) (wire_bits n v)) is;
    }

pub wire_kept : (kept : Kept) (before old new : List Shape) (eqs : List NetEq) (n node : ℕ) → Extends old new → IsWireNode kept before old eqs n node → IsWireNode kept before new eqs n node
wire_kept kept before old new eqs n node e h = record {
  outer = record { there = let t = h.outer.there in let l = e.longer in omega (arith, t, l); mentions = variables-extends (is_outer kept.widths) old new node e h.outer.there ∙ h.outer.mentions };
  wide = width-extends old new node e h.outer.there ∙ h.wide;
  value = λ links st stim previous now present least. value-extends (reading (phase_of stim previous present)) old new node e h.outer.there ∙ h.value links st stim previous now present least;
}

-- ---- the nodes of the first n wires

pub record Wired (kept : Kept) (before shapes : List Shape) (eqs : List NetEq) (nodes : List ℕ) (n : ℕ) : Type 0 where
  pub size : length nodes ≡ n
  pub at : (k : ℕ) → k < n → IsWireNode kept before shapes eqs k (slice_index nodes k)

pub wired_none : (kept : Kept) (before shapes : List Shape) (eqs : List NetEq) (nodes : List ℕ) → nodes ≡ [] → Wired kept before shapes eqs nodes 0
wired_none kept before shapes eqs nodes e = record { size = ap length e; at = λ k lt. absurd (omega (arith, lt)) }

pub wired_more : (kept : Kept) (before old new : List Shape) (eqs : List NetEq) (nodes more : List ℕ) (n node : ℕ) → Extends old new → more ≡ nodes ++ node ∷ [] → Wired kept before old eqs nodes n → IsWireNode kept before new eqs n node
    → Wired kept before new eqs more (n + 1)
wired_more kept before old new eqs nodes more n node e pushed h made = record {
  size = let x = length-append nodes (node ∷ []) in let y = ap length pushed in let s = h.size in omega (arith, x, y, s);
  at = λ k lt. elim (cases_eq k n) [
    | inl is ↦
        let last : slice_index more k ≡ node = ap (λ l. get_or l k 0) pushed ∙ get_or_push nodes node 0 k (h.size ∙ sym is) in
        subst (λ x. IsWireNode kept before new eqs k x) (sym last) (subst (λ x. IsWireNode kept before new eqs x node) (sym is) made)
    | inr ne ↦
        let below : k < n = omega (arith, lt, ne) in
        let same : slice_index more k ≡ slice_index nodes k = ap (λ l. get_or l k 0) pushed ∙ get_or_append_left nodes (node ∷ []) 0 k (let s = h.size in omega (arith, below, s)) in
        subst (λ x. IsWireNode kept before new eqs k x) (sym same) (wire_kept kept before old new eqs k (slice_index nodes k) e (h.at k below))
  ];
}

-- ---- what making a wire's node asks for

pub composed_kept : (kept : Kept) (before old new : List Shape) (eqs : List NetEq) (nodes : List ℕ) → Extends old new → IsComposed kept before old eqs nodes → IsComposed kept before new eqs nodes
composed_kept kept before old new eqs nodes e h = record {
  size = h.size;
  outer = outer_kept kept.widths old new nodes e h.outer;
  widths = λ i lt. width-extends old new (slice_index nodes i) e (h.outer i (let s = h.size in omega (arith, lt, s))).there ∙ h.widths i lt;
  exists = h.exists;
  values = λ links st stim previous now present least i lt.
      value-extends (reading (phase_of stim previous present)) old new (slice_index nodes i) e (h.outer i (let s = h.size in omega (arith, lt, s))).there ∙ h.values links st stim previous now present least i lt;
  free = h.free;
}

pub was_kept : (kept : Kept) (old new : List Shape) (set : Resolved) (nodes : List ℕ) → Extends old new → WasComposed kept old set nodes → WasComposed kept new set nodes
was_kept kept old new set nodes e h = record { before = h.before; resolved = h.resolved; composed = composed_kept kept h.before old new set.eqs nodes e h.composed }

abbrev covering : Resolved → Covering
covering set = record { eqs = map (λ e. e.seg) set.eqs; free = set.free }

pub covers_of : (kept : Kept) (shapes : List Shape) (set : Resolved) (nodes : List ℕ) (segments : Covering) → segments ≡ covering set → WasComposed kept shapes set nodes → (b : WireBit) → IsBitOf kept.widths b
    → HasSource (all_segs segments) (first_of kept b)
covers_of kept shapes set nodes segments is h b inside = subst (λ (c : Covering). HasSource (all_segs c) (first_of kept b)) (sym is) (h.resolved.covers b inside)

pub nodes_there : (kept : Kept) (shapes : List Shape) (set : Resolved) (nodes seen : List ℕ) → seen ≡ nodes → WasComposed kept shapes set nodes → AreThere shapes seen
nodes_there kept shapes set nodes seen is h = subst (AreThere shapes) (sym is) (record { there = λ i lt. (h.composed.outer i lt).there })

pub nodes_many : (kept : Kept) (shapes : List Shape) (set : Resolved) (nodes seen : List ℕ) (segments : Covering) → seen ≡ nodes → segments ≡ covering set → WasComposed kept shapes set nodes → length seen ≡ length segments.eqs
nodes_many kept shapes set nodes seen segments is at h = ap length is ∙ h.composed.size ∙ sym (length-map set.eqs (λ e. e.seg)) ∙ sym (ap (λ (c : Covering). length c.eqs) at)

pub nodes_wide : (kept : Kept) (shapes : List Shape) (set : Resolved) (nodes seen : List ℕ) (segments : Covering) → seen ≡ nodes → segments ≡ covering set → WasComposed kept shapes set nodes
    → (i : ℕ) → i < length segments.eqs → width_at shapes (slice_index seen i) ≡ (seg_at segments.eqs i).width
nodes_wide kept shapes set nodes seen segments is at h i lt =
    let long = ap (λ (c : Covering). length c.eqs) at ∙ length-map set.eqs (λ e. e.seg) in
    ap (λ l. width_at shapes (slice_index l i)) is
    ∙ h.composed.widths i (omega (arith, lt, long))
    ∙ ap (λ (c : Covering). (seg_at c.eqs i).width) (sym at)

pub wire_there : (widths seen : List ℕ) (n : ℕ) → seen ≡ widths → n < length seen → is_wire widths n (slice_index seen n) ≡ true
wire_there widths seen n is lt =
    both _ _ (lt-ltb n (length widths) (let e = ap length is in omega (arith, lt, e))) (eq-eqb (slice_index widths n) (slice_index seen n) (ap (λ l. slice_index l n) (sym is)))
