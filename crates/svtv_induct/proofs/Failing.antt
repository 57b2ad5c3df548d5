-- What a failing step shows: the valuation that the vectors of the wires' variables stand for.
use Rattle.std.proofs.Common.{◌≡◌, ℕ, ◌+◌, ◌<◌, ◌≤◌, Bool, true, false, List, [], ◌∷◌, ◌++◌, length, map, take, drop, get_or, refl, sym, ap, ◌∙◌, subst, arith, zero-add}
use Rattle.std.specs.Prelude.{Option}
use Rattle.std.proofs.lemmas.Bool.{false≢true}
use Rattle.std.proofs.lemmas.List.{append_assoc, ext_get_or, get_or-map, length-map, length_push, map-append}
use Rattle.std.proofs.lemmas.List.FromFn.{fill_by_all, get_or-map-range_with_len, length-map-range_with_len}
use Rattle.driver_resolve.specs.Drivers.{widths_of}
use Rattle.event_nets.specs.Tables.{IsValuation, store_of}
use Rattle.event_nets.proofs.Homes.{first-inside}
use Rattle.flat_net.specs.declared.flat.Flat.{Flat}
use Rattle.fourvec.specs.declared.Bit.{Bit}
use Rattle.fourvec.specs.declared.Bit.TheVariants.{Unknown}
use Rattle.fourvec.specs.Bits.{bit_of, is_known, is_known_bit, is_one, low_plane, planes, up_plane}
use Rattle.fourvec.specs.PlanesBack.{length-planes}
use Rattle.fourvec.proofs.Basic.{get_or-planes, planes_of}
use Rattle.fourvec.proofs.Planes.{has}
use Rattle.lhs_alias.specs.Lies.{IsBitOf, LieIn, LiesIn}
use Rattle.lhs_alias.specs.Segs.{bit, lhs_bits, seg_bits}
use Rattle.lhs_alias.specs.declared.segs.Seg.{Seg}
use Rattle.lhs_alias.specs.declared.segs.WireBit.{WireBit}
use Rattle.lhs_alias.proofs.SegBits.{length-seg_bits, lhs_bits-take_more}
use Rattle.settling.specs.Settling.{Store, first_bit, value_at as value_in}
use Rattle.sv_meaning.specs.Designs.{Design, links_of}
use Rattle.sv_outside.specs.declared.text.Signal.{Signal}
use Rattle.svex_shape.specs.Values.{Vector}
use Rattle.svtv_least.specs.Passed.{IsElaborated}
use Rattle.svtv_table.specs.Names.{no_signal}
use Rattle.svtv_table.specs.Stimuli.{IsChoice, given}
use Rattle.svtv_table.specs.declared.bound.Bound.{Bound}
use Rattle.svtv_table.specs.declared.bound.VarDecl.{VarDecl}
use Rattle.svtv_unroll.proofs.Nodes.{as_bits}
use Rattle.svtv_induct.specs.Halves.{IsHalf, IsOf, firsts_at}
use Rattle.svtv_induct.specs.Inducting.{BreaksStep, HasVectors, IsStateOf, IsStepRight, state_of}
use Rattle.svtv_induct.specs.Showing.{AreOwnValues, AreSlices, HaveValues, IsShownStep, made_vector}
use Rattle.svtv_induct.specs.States.{bits_in, joined_state, made_of, own_state, state_vars, with_vars}
use Rattle.svtv_induct.specs.declared.half.Half.{Half}
use Rattle.svtv_induct.specs.declared.half.Inducted.{Inducted}
use Rattle.svtv_induct.specs.declared.half.Inducted.TheVariants.{Invariant, BaseFails, StepFails, Undecided}
use Rattle.svtv_induct.proofs.Answering.{are_signals}
use Rattle.svtv_induct.proofs.Firsts.{bits_of_wire, even_within, firsts_are, inside_wires}
use Rattle.svtv_induct.proofs.Joined.{each_push, some_segs, taken_long, taken_most}
use Rattle.svtv_induct.proofs.Nodes.{known_at, slice_bits}
use Rattle.svtv_induct.proofs.States.{joined_even, take_choice}
use Rattle.svtv_induct.proofs.Widening.{choice_wide}

-- ---- two vectors as planes

one_from : (b : Bit) (p q : Bool) → b ≡ bit_of p q → is_known_bit b ≡ true → p ≡ is_one b
one_from b true true e k = sym (ap is_one e)
one_from b false false e k = sym (ap is_one e)
one_from b true false e k = absurd (false≢true (sym (ap is_known_bit e) ∙ k))
one_from b false true e k = absurd (false≢true (sym (ap is_known_bit e) ∙ k))

has_one : (v : Vector) (k : ℕ) → is_known v ≡ true → k < length v → has (up_plane v) k ≡ is_one (get_or v k Unknown)
has_one v k h l =
    let back : get_or v k Unknown ≡ bit_of (has (up_plane v) k) (has (low_plane v) k) =
    ap (λ (x : Vector). get_or x k Unknown) (sym (planes_of v)) ∙ get_or-planes (length v) (up_plane v) (low_plane v) k Unknown l in
    one_from (get_or v k Unknown) (has (up_plane v) k) (has (low_plane v) k) back (known_at v k h l)

pub planes_made : (up low : Vector) → length up ≡ length low → is_known up ≡ true → is_known low ≡ true → planes (length up) (up_plane up) (up_plane low) ≡ made_vector up low
planes_made up low e ku kl =
    fill_by_all (λ k. made_of (get_or up k Unknown) (get_or low k Unknown)) (planes (length up) (up_plane up) (up_plane low)) (length up) Unknown (length-planes (length up) (up_plane up) (up_plane low))
    (λ k l.
    get_or-planes (length up) (up_plane up) (up_plane low) k Unknown l ∙ ap (λ p. bit_of p (has (up_plane low) k)) (has_one up k ku l)
    ∙ ap (λ q. bit_of (is_one (get_or up k Unknown)) q) (has_one low k kl (omega (arith, l, e))))

-- ---- bits of segments

pub slice_is : (own : List Vector) (seg : Seg) (v : Vector) → LiesIn (map (λ x. length x) own) seg → v ≡ get_or own seg.wire [] → take seg.width (drop seg.lo v) ≡ bits_in (store_of own) (seg_bits seg)
slice_is own seg v l is =
    let w : Vector = get_or own seg.wire [] in
    let long : length own ≡ length (map (λ (x : Vector). length x) own) = sym (length-map own (λ (x : Vector). length x)) in
    let wide : get_or (map (λ (x : Vector). length x) own) seg.wire 0 ≡ length w = get_or-map (λ (x : Vector). length x) own seg.wire [] 0 (omega (arith, l.wire, long)) in
    ap (λ (x : Vector). take seg.width (drop seg.lo x)) (is ∙ sym (as_bits w (length w) refl)) ∙ slice_bits (store_of own) seg (length w) (omega (arith, l.ends, wide))

pub slice_fits : (own : List Vector) (seg : Seg) (v : Vector) → LiesIn (map (λ x. length x) own) seg → v ≡ get_or own seg.wire [] → seg.lo + seg.width ≤ length v
slice_fits own seg v l is =
    let long : length own ≡ length (map (λ (x : Vector). length x) own) = sym (length-map own (λ (x : Vector). length x)) in
    let wide : get_or (map (λ (x : Vector). length x) own) seg.wire 0 ≡ length (get_or own seg.wire []) = get_or-map (λ (x : Vector). length x) own seg.wire [] 0 (omega (arith, l.wire, long)) in
    omega (arith, l.ends, wide, ap (λ (x : Vector). length x) is)

pub slice_there : (own : List Vector) (seg : Seg) → LiesIn (map (λ x. length x) own) seg → seg.wire < length own
slice_there own seg l = omega (arith, l.wire, length-map own (λ (x : Vector). length x))

pub bits_long : (s : Store) (bits : List WireBit) → length (bits_in s bits) ≡ length bits
bits_long s bits = length-map bits (value_in s)

pub slices_more : (s : Store) (segs : List Seg) (at : ℕ) (d : Seg) (all low : Vector) → at < length segs → all ≡ bits_in s (lhs_bits (take at segs)) → low ≡ bits_in s (seg_bits (get_or segs at d))
    → low ++ all ≡ bits_in s (lhs_bits (take (at + 1) segs))
slices_more s segs at d all low l e k =
    ap (λ (v : Vector). v ++ all) k ∙ ap (λ (v : Vector). bits_in s (seg_bits (get_or segs at d)) ++ v) e ∙ sym (map-append (value_in s) (seg_bits (get_or segs at d)) (lhs_bits (take at segs)))
    ∙ ap (bits_in s) (sym (lhs_bits-take_more segs at d l))

pub slices_fit : (s : Store) (segs : List Seg) (at : ℕ) (d : Seg) (all low : Vector) → at < length segs → length (lhs_bits segs) ≤ 128 → all ≡ bits_in s (lhs_bits (take at segs)) → low ≡ bits_in s (seg_bits (get_or segs at d))
    → length all + length low ≤ 128
slices_fit s segs at d all low l most e k =
    let x : length all ≡ length (lhs_bits (take at segs)) = ap (λ (v : Vector). length v) e ∙ bits_long s (lhs_bits (take at segs)) in
    let y : length low ≡ (get_or segs at d).width = ap (λ (v : Vector). length v) k ∙ bits_long s (seg_bits (get_or segs at d)) ∙ length-seg_bits (get_or segs at d) in
    omega (arith, x, y, most, taken_long segs at d l, taken_most (at + 1) segs)

-- ---- the vectors of the wires

pub have_values_push : (own : List Vector) (firsts : List (List Seg)) (values : List Vector) (count : ℕ) (segs : List Seg) (v : Vector) → segs ≡ get_or firsts count [] → HaveValues own firsts values count → v ≡ bits_in (store_of own) (lhs_bits segs)
    → HaveValues own firsts (values ++ v ∷ []) (count + 1)
have_values_push own firsts values count segs v e h is = record {
  as_many = length_push values v ∙ (let s = h.as_many in omega (arith, s));
  each = each_push (λ n x. x ≡ bits_in (store_of own) (lhs_bits (get_or firsts n []))) values [] v count h.as_many h.each (is ∙ ap (λ (ss : List Seg). bits_in (store_of own) (lhs_bits ss)) e);
}

own_value : (found : List Vector) (before wires : ℕ) (own : List Vector) → AreOwnValues found before wires own wires → (n k : ℕ) → n < wires → k < length (given found (before + n))
    → store_of own n k ≡ own_state found before wires n k
own_value found before wires own a n k l m =
    ap (λ (v : Vector). get_or v k Unknown) (a.each n l)
    ∙ get_or-map-range_with_len (λ j. made_of (get_or (given found (before + n)) j Unknown) (get_or (given found (before + wires + n)) j Unknown)) 0 (length (given found (before + n))) k k Unknown m (zero-add k)

pub own_widths : (wires : List Signal) (bound : Bound) (found own : List Vector) → IsChoice (with_vars bound wires).vars found → AreOwnValues found (length bound.vars) (length wires) own (length wires)
    → map (λ v. length v) own ≡ widths_of wires
own_widths wires bound found own c a =
    let len : Vector → ℕ = λ v. length v in
    let one : length (map len own) ≡ length own = length-map own len in
    let two : length (widths_of wires) ≡ length wires = length-map wires (λ (s : Signal). s.width) in
    ext_get_or 0 (map len own) (widths_of wires) (omega (arith, one, two, a.as_many))
    (λ i l.
    let inside : i < length wires = omega (arith, l, one, a.as_many) in
    let first : Vector = given found (length bound.vars + i) in
    let second : Vector = given found (length bound.vars + length wires + i) in
    get_or-map len own i [] 0 (omega (arith, l, one)) ∙ ap len (a.each i inside)
    ∙ length-map-range_with_len (λ k. made_of (get_or first k Unknown) (get_or second k Unknown)) 0 (length first) ∙ (choice_wide wires bound found c i inside).0)

-- what the segments of a half ask of such vectors
pub slices_of : (h : Half) (at : ℕ) (own : List Vector) → IsHalf h at → (n : ℕ) → n < length h.fsm.flat.wires → (w : ℕ) → get_or (widths_of h.fsm.flat.wires) n 0 ≡ w → 0 < w → w ≤ 128 → map (λ v. length v) own ≡ widths_of h.fsm.flat.wires
    → AreSlices (map (λ v. length v) own) (firsts_at h n)
slices_of h at own half n l w is some most e = record {
  some = some_segs (firsts_at h n) (omega (arith, half.wide n l, is, some));
  most = omega (arith, half.wide n l, is, most);
  lie = subst (λ ws. LieIn ws (firsts_at h n)) (sym e) (half.lie n l);
}

-- ---- what is asked of the vectors that are found

pub found_alike : (h : Half) (found : List Vector) (before wires : ℕ) → IsChoice (with_vars h.bound h.fsm.flat.wires).vars found → before ≡ length h.bound.vars → wires ≡ length h.fsm.flat.wires
    → (n : ℕ) → n < wires → length (get_or found (before + n) []) ≡ length (get_or found (before + wires + n) [])
found_alike h found before wires c eb ew n l =
    let both = choice_wide h.fsm.flat.wires h.bound found c n (omega (arith, l, ew)) in
    let front : before + wires ≡ length h.bound.vars + length h.fsm.flat.wires = omega (arith, eb, ew) in
    ap (λ k. length (given found (k + n))) eb ∙ both.0 ∙ sym (ap (λ k. length (given found (k + n))) front ∙ both.1)

own_held : (h : Half) (found own : List Vector) (before wires : ℕ) → before ≡ length h.bound.vars → wires ≡ length h.fsm.flat.wires → AreOwnValues found before wires own wires
    → AreOwnValues found (length h.bound.vars) (length h.fsm.flat.wires) own (length h.fsm.flat.wires)
own_held h found own before wires eb ew a =
    subst (λ k. AreOwnValues found (length h.bound.vars) k own k) ew (subst (λ b. AreOwnValues found b wires own wires) eb a)

pub found_slices : (h : Half) (at : ℕ) (found own held : List Vector) (firsts : List (List Seg)) (before wires : ℕ) → IsHalf h at → IsChoice (with_vars h.bound h.fsm.flat.wires).vars found → before ≡ length h.bound.vars → wires ≡ length h.fsm.flat.wires
    → AreOwnValues found before wires own wires → held ≡ own → firsts ≡ h.firsts → (n : ℕ) → n < length firsts → AreSlices (map (λ v. length v) held) (get_or firsts n [])
found_slices h at found own held firsts before wires half c eb ew a eh ef n l =
    let inside : n < length h.fsm.flat.wires = omega (arith, l, ap (λ (fs : List (List Seg)). length fs) ef, half.many) in
    let widths = own_widths h.fsm.flat.wires h.bound found own c (own_held h found own before wires eb ew a) in
    let signal = are_signals h.fsm half.design n no_signal inside in
    subst (λ (vs : List Vector). AreSlices (map (λ (v : Vector). length v) vs) (get_or firsts n [])) (sym eh)
    (subst (λ (fs : List (List Seg)). AreSlices (map (λ (v : Vector). length v) own) (get_or fs n [])) (sym ef)
    (slices_of h at own half n inside (get_or h.fsm.flat.wires n no_signal).width (get_or-map (λ (s : Signal). s.width) h.fsm.flat.wires n no_signal 0 inside) signal.some signal.most widths))

-- ---- the vectors of the valuation

pub values_wide : (h : Half) (at : ℕ) (own values : List Vector) → IsHalf h at → HaveValues own h.firsts values (length h.fsm.flat.wires) → IsValuation (widths_of h.fsm.flat.wires) values
values_wide h at own values half v =
    let len : Vector → ℕ = λ x. length x in
    let one : length (map len values) ≡ length values = length-map values len in
    let two : length (widths_of h.fsm.flat.wires) ≡ length h.fsm.flat.wires = length-map h.fsm.flat.wires (λ (s : Signal). s.width) in
    ext_get_or 0 (map len values) (widths_of h.fsm.flat.wires) (omega (arith, one, two, v.as_many))
    (λ i l.
    let inside : i < length h.fsm.flat.wires = omega (arith, l, one, v.as_many) in
    get_or-map len values i [] 0 (omega (arith, l, one)) ∙ ap len (v.each i inside) ∙ length-map (lhs_bits (firsts_at h i)) (value_in (store_of own)) ∙ half.wide i inside)

pub shown_vectors : (base h : Half) (at : ℕ) (found : List Vector) (verdict : Inducted) → IsHalf h at → IsChoice (with_vars h.bound h.fsm.flat.wires).vars found → IsShownStep h found verdict → HasVectors base h verdict
shown_vectors base h at found (StepFails choice state) half c s =
    let more : List VarDecl = state_vars h.fsm.flat.wires in
    let front = take_choice h.bound.vars (more ++ more) found (subst (λ (vs : List VarDecl). IsChoice vs found) (append_assoc h.bound.vars more more) c) in
    (subst (IsChoice h.bound.vars) (sym s.0) front, values_wide h at s.1.0 state.values half s.1.2)
shown_vectors base h at found Invariant half c s = absurd s
shown_vectors base h at found (BaseFails choice) half c s = absurd s
shown_vectors base h at found (Undecided formula log) half c s = absurd s

-- ---- the valuation

module _ (d : Design) (flat : Flat) (h : Half) (at : ℕ) (found own values : List Vector) (half : IsHalf h at) (elaborated : IsElaborated d flat) (of : IsOf flat h)
    (c : IsChoice (with_vars h.bound h.fsm.flat.wires).vars found) (a : AreOwnValues found (length h.bound.vars) (length h.fsm.flat.wires) own (length h.fsm.flat.wires)) (v : HaveValues own h.firsts values (length h.fsm.flat.wires)) where
  widths_long : length (widths_of h.fsm.flat.wires) ≡ length h.fsm.flat.wires
  widths_long = length-map h.fsm.flat.wires (λ (s : Signal). s.width)

  -- the first bit of a bit's class has in the vectors what the variables make of it
  first_value : (n k : ℕ) → n < length h.fsm.flat.wires → k < get_or (widths_of h.fsm.flat.wires) n 0 → joined_state (first_bit (links_of d.works)) (store_of own) n k ≡ state_of d h found n k
  first_value n k l m =
      let ws : List ℕ = widths_of h.fsm.flat.wires in
      let inside : IsBitOf ws (bit n k) = record { wire = omega (arith, l, widths_long); place = m } in
      let b : WireBit = first_bit (links_of d.works) (bit n k) in
      let i = first-inside ws (links_of d.works) (inside_wires d flat h elaborated of) (bit n k) inside in
      let there : b.wire < length h.fsm.flat.wires = (let w = i.wire in omega (arith, w, widths_long)) in
      let wide = (choice_wide h.fsm.flat.wires h.bound found c b.wire there).0 in
      own_value found (length h.bound.vars) (length h.fsm.flat.wires) own a b.wire b.at there (let p = i.place in omega (arith, p, wide))

  pub shown_within : (n k : ℕ) → n < length h.fsm.flat.wires → k < get_or (widths_of h.fsm.flat.wires) n 0 → store_of values n k ≡ state_of d h found n k
  shown_within n k l m =
      let w : ℕ = get_or (widths_of h.fsm.flat.wires) n 0 in
      let first : WireBit → WireBit = first_bit (links_of d.works) in
      ap (λ (x : Vector). get_or x k Unknown)
      (v.each n l ∙ ap (bits_in (store_of own)) (firsts_are d flat h elaborated of n l) ∙ bits_of_wire first (store_of own) n w)
      ∙ get_or-map-range_with_len (joined_state first (store_of own) n) 0 w k k Unknown m (zero-add k) ∙ first_value n k l m

  pub state_shown : IsStateOf d h found (store_of values)
  state_shown = record {
    even = even_within (links_of d.works) (widths_of h.fsm.flat.wires) (store_of values) (state_of d h found) (inside_wires d flat h elaborated of)
        (λ n k l m. shown_within n k (omega (arith, l, widths_long)) m) (joined_even (links_of d.works) (own_state found (length h.bound.vars) (length h.fsm.flat.wires)));
    within = shown_within;
  }

-- ---- the failure

pub shown_right : (d : Design) (flat : Flat) (h : Half) (at : ℕ) (budget : Option ℕ) (found : List Vector) (verdict : Inducted) → IsHalf h at → IsElaborated d flat → IsOf flat h
    → IsChoice (with_vars h.bound h.fsm.flat.wires).vars found → ((state : Store) → IsStateOf d h found state → BreaksStep d h at (take (length h.bound.vars) found) state)
    → IsShownStep h found verdict → IsStepRight d h at budget verdict
shown_right d flat h at budget found (StepFails choice state) half e o c breaks s = (
  values_wide h at s.1.0 state.values half s.1.2,
  subst (λ x. BreaksStep d h at x (store_of state.values)) (sym s.0) (breaks (store_of state.values) (state_shown d flat h at found s.1.0 state.values half e o c s.1.1 s.1.2)),
)
shown_right d flat h at budget found Invariant half e o c breaks s = absurd s
shown_right d flat h at budget found (BaseFails choice) half e o c breaks s = absurd s
shown_right d flat h at budget found (Undecided formula log) half e o c breaks s = absurd s
