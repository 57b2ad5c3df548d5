-- The equations and free segments of a flat design together.
use Rattle.std.proofs.Common.{◌≡◌, ◌⊎◌, ℕ, ◌+◌, ◌-◌, ◌<◌, ◌≤◌, Bool, true, false, not, cond, eqb, ◌&&◌, List, [], ◌∷◌, ◌++◌, length, get_or, map, refl, sym, ap, ◌∙◌, subst, inl, inr, arith, length-append, get_or-append-add}
use Rattle.std.specs.Prelude.{All, Option, None, Some, IsTrue, ◌↔◌, filter}
use Rattle.std.proofs.lemmas.Simd.{map-map}
use Rattle.std.proofs.lemmas.Bool.{cases_lt}
use Rattle.std.proofs.lemmas.List.{get_or-map, get_or_default, get_or_append_left, length-map}
use Rattle.std.proofs.lemmas.List.Elements.{All-weaker}
use Rattle.fourvec.specs.declared.Bit.{Bit}
use Rattle.fourvec.specs.declared.Bit.TheVariants.{Unknown}
use Rattle.fourvec.proofs.Order.{both}
use Rattle.fourvec.proofs.Tables.{left_of, right_of}
use Rattle.lhs_alias.specs.declared.segs.Seg.{Seg}
use Rattle.lhs_alias.specs.declared.segs.WireBit.{WireBit}
use Rattle.lhs_alias.specs.Segs.{bit, seg_bits}
use Rattle.lhs_alias.specs.Lies.{LiesIn, IsBitOf}
use Rattle.lhs_alias.specs.Joined.{Kept, Stands, all_bits, place_of, first_of}
use Rattle.lhs_alias.proofs.Chains.{first-unique}
use Rattle.lhs_alias.proofs.Row.{place-below, all_bits-lie}
use Rattle.lhs_alias.proofs.SegBits.{length-seg_bits, get_or-seg_bits}
use Rattle.settling.specs.Settling.{Store, Link, Contribution, Resolves, value_at as value_in, first_bit, same_bit, given_to}
use Rattle.settling.specs.Events.{resolved}
use Rattle.settling.proofs.Classes.{joined-first, first-joined, same-name}
use Rattle.settling.proofs.Least.{is-resolved}
use Rattle.svex_shape.specs.declared.shape.Shape.{Shape}
use Rattle.svex_shape.specs.Values.{value_at, each_variable}
use Rattle.svex_arena.specs.Arenas.{IsArena}
use Rattle.driver_resolve.specs.declared.driver.NetEq.{NetEq}
use Rattle.driver_resolve.specs.declared.driver.Resolved.{Resolved}
use Rattle.driver_resolve.specs.Drivers.{Phase, reading, widths_of}
use Rattle.flat_net.specs.declared.flat.Flat.{Flat}
use Rattle.flat_net.specs.Flats.{IsFlat, links_of, given, Settles, IsLeastSettling}
use Rattle.event_nets.specs.Gifts.{given_at}
use Rattle.event_nets.specs.Nets.{is_driven, is_net_bit, lowest, low_of, run_of, nets_of}
use Rattle.event_nets.specs.Runs.{net_test, low_in, lows_in}
use Rattle.event_nets.specs.declared.tables.Tables.{Tables}
use Rattle.event_nets.specs.Tables.{home_of, homes_of, gifts_of, lows_of, AreTables}
use Rattle.event_nets.proofs.Homes.{links-inside, first-inside, place-test, home-at, mapped-at, same-itself}
use Rattle.event_nets.proofs.Laying.{is-first}
use Rattle.event_nets.proofs.NetPlaces.{map-same, lowest-same}
use Rattle.net_equations.specs.Equations.{phase_of, Holds, Solves, IsLeastSolution, has_bit, seg_at, is_of_phase, IsEq, segs_of, IsResolved}
use Rattle.net_equations.specs.Groups.{Mentions}
use Rattle.net_resolve.specs.Runs.{AreFreeSegs, is_nothing, none_at}
use Rattle.net_resolve.specs.Laid.{AreEquations, HasFree}
use Rattle.net_resolve.specs.Resolving.{lowest_bit, is_free_bit, IsNet, IsFree, IsReadFor, resolution_at}
use Rattle.net_resolve.proofs.Given.{values_in, stimuli_in, has_some, none-there, some-given, gifts-give, outside-none, net-given}
use Rattle.net_resolve.proofs.Running.{has-parts, low_by, AreLows, AreRuns, runs-are}
use Rattle.net_resolve.proofs.Solving.{narrow-wires, nets-are_runs, nets-named, first-net, bits-have, IsEquation, equations-are}

-- ---- free segments

pub first-free : (flat : Flat) (over : List ℕ) (b : WireBit) → is_free_bit flat over b ≡ true → first_bit (links_of flat.joins) b ≡ b
unfolding is_free_bit
first-free flat over b t = same-name _ _ (left_of _ _ t)

-- no bit is both
apart-bits : (flat : Flat) (over : List ℕ) (b : WireBit) → is_net_bit flat over b ≡ true → is_free_bit flat over b ≡ true → ⊥
unfolding is_net_bit is_free_bit
apart-bits flat over b t u = differ (is_driven flat over b) (right_of _ _ t) (right_of _ _ u)
  where
    differ : (d : Bool) → d ≡ true → not d ≡ true → ⊥
    differ true e f = cc
    differ false e f = cc

-- a first bit is one of the two
either-bit : (flat : Flat) (over : List ℕ) (f : WireBit) → first_bit (links_of flat.joins) f ≡ f → (is_net_bit flat over f ≡ true) ⊎ (is_free_bit flat over f ≡ true)
unfolding is_net_bit is_free_bit
either-bit flat over f own =
    let is : same_bit (first_bit (links_of flat.joins) f) f ≡ true = ap (λ x. same_bit x f) own ∙ same-itself f in
    pick (is_driven flat over f) refl is
  where
    pick : (t : Bool) → is_driven flat over f ≡ t → same_bit (first_bit (links_of flat.joins) f) f ≡ true
        → ((same_bit (first_bit (links_of flat.joins) f) f && is_driven flat over f) ≡ true) ⊎ ((same_bit (first_bit (links_of flat.joins) f) f && not (is_driven flat over f)) ≡ true)
    pick true e is = inl (both _ _ is e)
    pick false e is = inr (both _ _ is (ap not e))

nothing-low : (flat : Flat) (over : List ℕ) (b : WireBit) → IsBitOf (widths_of flat.wires) b → none_at (lows_of flat over) (place_of (widths_of flat.wires) b) ≡ not (is_net_bit flat over b)
unfolding low_of
nothing-low flat over b ib =
    ap is_nothing (mapped-at (widths_of flat.wires) (low_of (place_of (widths_of flat.wires)) flat over) b None ib) ∙ pick (is_net_bit flat over b) (place_of (widths_of flat.wires) (run_of flat over b))
  where
    pick : (t : Bool) (k : ℕ) → is_nothing (cond t (Some k) None) ≡ not t
    pick true k = refl
    pick false k = refl

free-test : (flat : Flat) → IsFlat flat → (over : List ℕ) (marks : List Bool) → ((k : ℕ) → k < length (lows_of flat over) → get_or marks k false ≡ none_at (lows_of flat over) k)
    → (b : WireBit) → IsBitOf (widths_of flat.wires) b → net_test (homes_of flat) marks (place_of (widths_of flat.wires) b) ≡ is_free_bit flat over b
unfolding is_free_bit is_net_bit
free-test flat ok over marks h b ib =
    let widths = widths_of flat.wires in
    let links = links_of flat.joins in
    let home = home_of links widths in
    let place = place_of widths b in
    let long = length-map (all_bits widths) (low_of (place_of widths) flat over) in
    let below = place-below widths b ib in
    let first : eqb (get_or (homes_of flat) place 0) place ≡ same_bit (first_bit links b) b =
    ap (λ k. eqb k place) (home-at widths home b ib) ∙ place-test widths (first_bit links b) b (first-inside widths links (links-inside widths flat.joins ok.joins) b ib) ib in
    ap (λ t. t && get_or marks place false) first
    ∙ ap (λ t. same_bit (first_bit links b) b && t) (h place (omega (arith, below, long)) ∙ nothing-low flat over b ib)
    ∙ pick (same_bit (first_bit links b) b) (is_driven flat over b)
  where
    pick : (s d : Bool) → (s && not (s && d)) ≡ (s && not d)
    pick true d = refl
    pick false d = refl

wire-place : (widths : List ℕ) (n j : ℕ) → place_of widths (bit n 0) + j ≡ place_of widths (bit n j)
unfolding place_of
wire-place widths n j = omega arith

free-lows : (flat : Flat) → IsFlat flat → (over : List ℕ) (marks : List Bool) → ((k : ℕ) → k < length (lows_of flat over) → get_or marks k false ≡ none_at (lows_of flat over) k)
    → AreLows (widths_of flat.wires) (is_free_bit flat over) (lows_in (net_test (homes_of flat) marks) (widths_of flat.wires))
free-lows flat ok over marks h =
    let widths = widths_of flat.wires in
    let net : ℕ → Bool = net_test (homes_of flat) marks in
    map-same (IsBitOf widths) (λ b. low_in net (place_of widths (bit b.wire 0)) b.at) (low_by widths (is_free_bit flat over))
    (λ b ib.
    let start = place_of widths (bit b.wire 0) in
    let at : (j : ℕ) → j ≤ b.at → net (start + j) ≡ is_free_bit flat over (bit b.wire j) =
    λ j le. let place = ib.place in ap net (wire-place widths b.wire j) ∙ free-test flat ok over marks h (bit b.wire j) (record { wire = ib.wire; place = omega (arith, le, place) }) in
    let low : lowest (λ j. net (start + j)) b.at ≡ lowest (λ j. is_free_bit flat over (bit b.wire j)) b.at =
    lowest-same (λ j. net (start + j)) (λ j. is_free_bit flat over (bit b.wire j)) b.at (λ j lt. at j (omega (arith, lt))) in
    ap (λ u. cond u (Some (start + lowest (λ j. net (start + j)) b.at)) None) (at b.at (omega arith))
    ∙ ap (λ k. cond (is_free_bit flat over b) (Some k) None)
    (ap (λ k. start + k) low ∙ wire-place widths b.wire (lowest (λ j. is_free_bit flat over (bit b.wire j)) b.at)))
    (all_bits widths) (all_bits-lie widths)

pub free-are : (flat : Flat) → IsFlat flat → (over : List ℕ) (free : List Seg) → HasFree flat over free → AreRuns (widths_of flat.wires) (is_free_bit flat over) free
free-are flat ok over free h =
    runs-are (widths_of flat.wires) (is_free_bit flat over) (lows_in (net_test (homes_of flat) h.marks) (widths_of flat.wires)) free (narrow-wires flat.wires ok.wires)
    (free-lows flat ok over h.marks h.marks_are) h.segs_are

-- ---- what is given

net-some : (flat : Flat) → IsArena flat.arena → IsFlat flat → (over : List ℕ) (p : Phase) (f : WireBit) → IsBitOf (widths_of flat.wires) f → first_bit (links_of flat.joins) f ≡ f
    → has_some (given_to (links_of flat.joins) f (given flat over p)) ≡ is_net_bit flat over f
net-some flat a ok over p f i own =
    let widths = widths_of flat.wires in
    let values = values_in flat.arena p in
    let stim = stimuli_in widths p in
    let gifts = gifts_of flat over in
    ap has_some (sym (gifts-give flat a ok over p f i) ∙ ap (λ x. given_at values stim (place_of widths x) gifts) own)
    ∙ sym (some-given values stim (place_of widths f) gifts) ∙ net-given flat ok over f i own

resolved-is : (x : Bit) (all : List Bit) → has_some all ≡ true → Resolves x all → x ≡ resolved all
resolved-is x [] e h = let f : false ≡ true = e in cc
resolved-is x (y ∷ more) e h = h

-- a class is given what its first bit is
class-given : (links : List Link) (f b : WireBit) (all : List Contribution) → first_bit links f ≡ first_bit links b → given_to links f all ≡ given_to links b all
class-given links f b all e = ap (λ x. map (λ c. c.1) (filter (λ (c : Contribution). same_bit (first_bit links c.0) x) all)) e

-- ---- equations against settlings

lies-inside : (widths : List ℕ) (seg : Seg) → LiesIn widths seg → (b : WireBit) → IsTrue (has_bit seg b) → IsBitOf widths b
lies-inside widths seg lies b h =
    let parts = has-parts seg b h in
    let high = parts.1.1 in
    let ends = lies.ends in
    let same = ap (λ n. get_or widths n 0) parts.0 in
    record { wire = subst (λ n. n < length widths) parts.0 lies.wire; place = omega (arith, high, ends, same) }

equation-holds : (flat : Flat) (over : List ℕ) (new : List Shape) (seg : Seg) (node : ℕ) (p : Phase) → IsEquation flat over new seg node
    → ((c : WireBit) → IsTrue (has_bit seg c) → value_in p.present c ≡ resolution_at flat over p c) → map (value_in p.present) (seg_bits seg) ≡ value_at (reading p) new node
equation-holds flat over new seg node p e h =
    map-same (λ c. IsTrue (has_bit seg c)) (value_in p.present) (resolution_at flat over p) h (seg_bits seg) (bits-have seg) ∙ sym (e.value p)

equation-tells : (flat : Flat) (over : List ℕ) (new : List Shape) (seg : Seg) (node : ℕ) (p : Phase) → IsEquation flat over new seg node → map (value_in p.present) (seg_bits seg) ≡ value_at (reading p) new node
    → (c : WireBit) → IsTrue (has_bit seg c) → value_in p.present c ≡ resolution_at flat over p c
equation-tells flat over new seg node p e h c t =
    let parts = has-parts seg c t in
    let low = parts.1.0 in
    let high = parts.1.1 in
    let j = c.at - seg.lo in
    let lt : j < seg.width = omega (arith, low, high) in
    let at : seg.lo + j ≡ c.at = omega (arith, low) in
    let is : get_or (seg_bits seg) j (bit 0 0) ≡ c = get_or-seg_bits seg j (bit 0 0) lt ∙ (λ i. record { wire = parts.0 i; at = at i }) in
    let inside : j < length (seg_bits seg) = omega (arith, lt, length-seg_bits seg) in
    ap (value_in p.present) (sym is)
    ∙ sym (get_or-map (value_in p.present) (seg_bits seg) j (bit 0 0) Unknown inside)
    ∙ ap (λ l. get_or l j Unknown) (h ∙ e.value p)
    ∙ get_or-map (resolution_at flat over p) (seg_bits seg) j (bit 0 0) Unknown inside
    ∙ ap (resolution_at flat over p) is

pub solves-settled : (flat : Flat) → IsArena flat.arena → IsFlat flat → (over : List ℕ) (new : List Shape) (eqs : List NetEq) → All (λ e. IsEquation flat over new e.seg e.value) eqs
    → (stim prev now : Store) → Settles flat over stim prev now → Solves (links_of flat.joins) new eqs (phase_of stim prev now)
solves-settled flat a ok over new eqs h stim prev now s = record {
  even = s.0;
  hold = All-weaker (λ (e : NetEq). IsEquation flat over new e.seg e.value) (Holds new p)
      (λ e is. equation-holds flat over new e.seg e.value p is
      (λ c t.
      let ic = lies-inside (widths_of flat.wires) e.seg is.lies c t in
      let net = ((is.net c ic).0 t).0 in
      resolved-is (value_in now c) (given_to (links_of flat.joins) c (given flat over p)) (net-some flat a ok over p c ic (first-net flat over c net) ∙ net) (s.1 c)))
      eqs h;
}
  where
    p : Phase
    p = phase_of stim prev now

pub settled-solves : (flat : Flat) → IsArena flat.arena → IsFlat flat → (over : List ℕ) (new : List Shape) (eqs : List NetEq) → All (λ e. IsEquation flat over new e.seg e.value) eqs
    → AreRuns (widths_of flat.wires) (is_net_bit flat over) (map (λ e. e.seg) eqs)
    → (stim prev now : Store) → Solves (links_of flat.joins) new eqs (phase_of stim prev now) → Settles flat over stim prev now
settled-solves flat a ok over new eqs h runs stim prev now s = (s.even, λ b. at b)
  where
    p : Phase
    p = phase_of stim prev now

    widths : List ℕ
    widths = widths_of flat.wires

    links : List Link
    links = links_of flat.joins

    all : List Contribution
    all = given flat over p

    -- a bit whose first bit lies in a net
    of_net : (b : WireBit) → IsBitOf widths b → is_net_bit flat over (first_bit links b) ≡ true → Resolves (value_in now b) (given_to links b all)
    of_net b ib t =
        let f = first_bit links b in
        let fi = first-inside widths links (links-inside widths flat.joins ok.joins) b ib in
        let found = runs.covers f fi t in
        let none : NetEq = record { seg = record { wire = 0; lo = 0; width = 0 }; value = 0 } in
        let lt = found.1.0 in
        let li : found.0 < length eqs = omega (arith, lt, length-map eqs (λ (e : NetEq). e.seg)) in
        let e = get_or eqs found.0 none in
        let seg : seg_at (map (λ (e : NetEq). e.seg) eqs) found.0 ≡ e.seg = get_or-map (λ (e : NetEq). e.seg) eqs found.0 none (record { wire = 0; lo = 0; width = 0 }) li in
        let has = subst (λ x. IsTrue (has_bit x f)) seg found.1.1 in
        let tells = equation-tells flat over new e.seg e.value p (h found.0 none li) (s.hold found.0 none li) f has in
        let same : first_bit links f ≡ first_bit links b = sym (first-joined links b f (joined-first links b)) in
        is-resolved (value_in now b) (given_to links b all)
        (s.even b f (joined-first links b) ∙ tells ∙ ap resolved (class-given links f b all same))

    -- nothing is given to a class that lies in no net
    of_none : (b : WireBit) → IsBitOf widths b → is_net_bit flat over (first_bit links b) ≡ false → Resolves (value_in now b) (given_to links b all)
    of_none b ib t =
        let f = first_bit links b in
        let fi = first-inside widths links (links-inside widths flat.joins ok.joins) b ib in
        let own : first_bit links f ≡ f = sym (first-joined links b f (joined-first links b)) in
        let none = none-there (given_to links f all) (net-some flat a ok over p f fi own ∙ t) in
        subst (λ l. Resolves (value_in now b) l) (sym none ∙ class-given links f b all own) tt

    of_bit : (b : WireBit) → IsBitOf widths b → (t : Bool) → is_net_bit flat over (first_bit links b) ≡ t → Resolves (value_in now b) (given_to links b all)
    of_bit b ib true e = of_net b ib e
    of_bit b ib false e = of_none b ib e

    outside : (b : WireBit) → (IsBitOf widths b → ⊥) → Resolves (value_in now b) (given_to links b all)
    outside b out = subst (λ l. Resolves (value_in now b) l) (sym (outside-none flat a ok over p b out)) tt

    at : (b : WireBit) → Resolves (value_in now b) (given_to links b all)
    at b = elim (cases_lt b.wire (length widths)) [
      | inl lt ↦ elim (cases_lt b.at (get_or widths b.wire 0)) [
        | inl low ↦ of_bit b (record { wire = lt; place = low }) (is_net_bit flat over (first_bit links b)) refl
        | inr high ↦ outside b (λ i. let place = i.place in omega (arith, place, high))
      ]
      | inr past ↦ outside b (λ i. let wire = i.wire in omega (arith, wire, past))
    ]

-- ---- all segments

-- an element of two lists behind each other
at-append : (a b : List Seg) (i : ℕ) → i < length (a ++ b)
    → ((i < length a) × (seg_at (a ++ b) i ≡ seg_at a i)) ⊎ ((k : ℕ) × ((k < length b) × ((i ≡ length a + k) × (seg_at (a ++ b) i ≡ seg_at b k))))
at-append a b i lt = elim (cases_lt i (length a)) [
  | inl low ↦ inl (low, get_or_append_left a b (record { wire = 0; lo = 0; width = 0 }) i low)
  | inr past ↦
      let k = i - length a in
      let is : i ≡ length a + k = omega (arith, past) in
      let below : k < length b = omega (arith, lt, past, length-append a b) in
      inr (k, (below, (is, ap (λ j. seg_at (a ++ b) j) is ∙ get_or-append-add a b k (record { wire = 0; lo = 0; width = 0 }))))
]

pub kept-first : (kept : Kept) (links : List Link) → Stands kept links → (b : WireBit) → IsBitOf kept.widths b → first_of kept b ≡ first_bit links b
kept-first kept links s b ib = first-unique links s.falls s.own_children b (first_of kept b) (first_bit links b) (s.first b ib) (is-first links b)

-- two lists of runs, of two tests, cut all first bits
record AreCut (flat : Flat) (over : List ℕ) (a b : List Seg) : Type 0 where
  pub nets : AreRuns (widths_of flat.wires) (is_net_bit flat over) a
  pub free : AreRuns (widths_of flat.wires) (is_free_bit flat over) b

-- a bit of one of the segments is a first bit
cut-first : (flat : Flat) (over : List ℕ) (a b : List Seg) → AreCut flat over a b → (i : ℕ) (c : WireBit) → i < length (a ++ b) → IsTrue (has_bit (seg_at (a ++ b) i) c)
    → IsBitOf (widths_of flat.wires) c × (first_bit (links_of flat.joins) c ≡ c)
cut-first flat over a b h i c lt t = elim (at-append a b i lt) [
  | inl x ↦
      let has = subst (λ s. IsTrue (has_bit s c)) x.1 t in
      let ic = lies-inside (widths_of flat.wires) (seg_at a i) (h.nets.lie i x.0) c has in
      (ic, first-net flat over c ((h.nets.each i x.0 c ic).0 has).0)
  | inr x ↦
      let has = subst (λ s. IsTrue (has_bit s c)) x.1.1.1 t in
      let ic = lies-inside (widths_of flat.wires) (seg_at b x.0) (h.free.lie x.0 x.1.0) c has in
      (ic, first-free flat over c ((h.free.each x.0 x.1.0 c ic).0 has).0)
]

run-same : (widths : List ℕ) (test : WireBit → Bool) (segs : List Seg) → AreRuns widths test segs → (i j : ℕ) (c : WireBit) → i < length segs → j < length segs → IsTrue (has_bit (seg_at segs i) c)
    → IsTrue (has_bit (seg_at segs j) c) → i ≡ j
run-same widths test segs h i j c li lj t u =
    let ic = lies-inside widths (seg_at segs i) (h.lie i li) c t in
    h.apart i j li lj (sym ((h.each i li c ic).0 t).1 ∙ ((h.each j lj c ic).0 u).1)

cut-apart : (flat : Flat) (over : List ℕ) (a b : List Seg) → AreCut flat over a b → (i j : ℕ) (c : WireBit) → i < length (a ++ b) → j < length (a ++ b)
    → IsTrue (has_bit (seg_at (a ++ b) i) c) → IsTrue (has_bit (seg_at (a ++ b) j) c) → i ≡ j
cut-apart flat over a b h i j c li lj t u = go (at-append a b i li) (at-append a b j lj)
  where
    widths : List ℕ
    widths = widths_of flat.wires

    differ : (m k : ℕ) → m < length a → k < length b → IsTrue (has_bit (seg_at a m) c) → IsTrue (has_bit (seg_at b k) c) → ⊥
    differ m k lm lk x y =
        let ic = lies-inside widths (seg_at a m) (h.nets.lie m lm) c x in
        apart-bits flat over c ((h.nets.each m lm c ic).0 x).0 ((h.free.each k lk c ic).0 y).0

    go : ((i < length a) × (seg_at (a ++ b) i ≡ seg_at a i)) ⊎ ((k : ℕ) × ((k < length b) × ((i ≡ length a + k) × (seg_at (a ++ b) i ≡ seg_at b k))))
        → ((j < length a) × (seg_at (a ++ b) j ≡ seg_at a j)) ⊎ ((k : ℕ) × ((k < length b) × ((j ≡ length a + k) × (seg_at (a ++ b) j ≡ seg_at b k)))) → i ≡ j
    go (inl x) (inl y) = run-same widths (is_net_bit flat over) a h.nets i j c x.0 y.0 (subst (λ s. IsTrue (has_bit s c)) x.1 t) (subst (λ s. IsTrue (has_bit s c)) y.1 u)
    go (inl x) (inr y) = absurd (differ i y.0 x.0 y.1.0 (subst (λ s. IsTrue (has_bit s c)) x.1 t) (subst (λ s. IsTrue (has_bit s c)) y.1.1.1 u))
    go (inr x) (inl y) = absurd (differ j x.0 y.0 x.1.0 (subst (λ s. IsTrue (has_bit s c)) y.1 u) (subst (λ s. IsTrue (has_bit s c)) x.1.1.1 t))
    go (inr x) (inr y) =
        let same = run-same widths (is_free_bit flat over) b h.free x.0 y.0 c x.1.0 y.1.0 (subst (λ s. IsTrue (has_bit s c)) x.1.1.1 t) (subst (λ s. IsTrue (has_bit s c)) y.1.1.1 u) in
        x.1.1.0 ∙ ap (λ k. length a + k) same ∙ sym y.1.1.0

cut-covers : (flat : Flat) (over : List ℕ) (a b : List Seg) → AreCut flat over a b → (f : WireBit) → IsBitOf (widths_of flat.wires) f → first_bit (links_of flat.joins) f ≡ f
    → (i : ℕ) × ((i < length (a ++ b)) × IsTrue (has_bit (seg_at (a ++ b) i) f))
cut-covers flat over a b h f fi own = elim (either-bit flat over f own) [
  | inl t ↦
      let x = h.nets.covers f fi t in
      let lt = x.1.0 in
      (x.0, (omega (arith, lt, length-append a b), subst (λ s. IsTrue (has_bit s f)) (sym (get_or_append_left a b (record { wire = 0; lo = 0; width = 0 }) x.0 lt)) x.1.1))
  | inr t ↦
      let x = h.free.covers f fi t in
      let lt = x.1.0 in
      (length a + x.0, (omega (arith, lt, length-append a b), subst (λ s. IsTrue (has_bit s f)) (sym (get_or-append-add a b x.0 (record { wire = 0; lo = 0; width = 0 }))) x.1.1))
]

pub resolved-kept : (flat : Flat) → IsFlat flat → (over : List ℕ) (new : List Shape) (set : Resolved) → All (λ e. IsEquation flat over new e.seg e.value) set.eqs
    → AreRuns (widths_of flat.wires) (is_net_bit flat over) (map (λ e. e.seg) set.eqs) → AreRuns (widths_of flat.wires) (is_free_bit flat over) set.free
    → (kept : Kept) → Stands kept (links_of flat.joins) → kept.widths ≡ widths_of flat.wires → IsResolved kept new set
resolved-kept flat ok over new set h nets free kept s e =
    let widths = widths_of flat.wires in
    let links = links_of flat.joins in
    let segs = map (λ (x : NetEq). x.seg) set.eqs in
    let cut : AreCut flat over segs set.free = record { nets = nets; free = free } in
    let none : Seg = record { wire = 0; lo = 0; width = 0 } in
    let inside : (b : WireBit) → IsBitOf widths b → IsBitOf kept.widths b = λ b i. subst (λ ws. IsBitOf ws b) (sym e) i in
    record {
      eqs = All-weaker (λ (x : NetEq). IsEquation flat over new x.seg x.value) (IsEq kept.widths new)
          (λ x is. record {
            lies = subst (λ ws. LiesIn ws x.seg) (sym e) is.lies;
            there = is.there;
            wide = is.wide;
            mentions = subst (λ ws. IsTrue (each_variable (is_of_phase ws) new x.value)) (sym e) is.phase;
          })
          set.eqs h;
      free = λ i d lt. subst (λ ws. LiesIn ws (get_or set.free i d)) (sym e) (subst (λ s. LiesIn widths s) (get_or_default set.free i none d lt) (free.lie i lt));
      firsts = λ i b lt t.
          let x = cut-first flat over segs set.free cut i b lt t in
          kept-first kept links s b (inside b x.0) ∙ x.1;
      apart = λ i j b li lj t u. cut-apart flat over segs set.free cut i j b li lj t u;
      covers = λ b ib.
          let b_in : IsBitOf widths b = subst (λ ws. IsBitOf ws b) e ib in
          let f = first_bit links b in
          let fi = first-inside widths links (links-inside widths flat.joins ok.joins) b b_in in
          let own : first_bit links f ≡ f = sym (first-joined links b f (joined-first links b)) in
          let x = cut-covers flat over segs set.free cut f fi own in
          (x.0, (x.1.0, subst (λ c. IsTrue (has_bit (seg_at (segs_of set) x.0) c)) (sym (kept-first kept links s b ib)) x.1.1));
    }

-- ---- what contracts say

pub laid-free : (flat : Flat) (over : List ℕ) (tables : Tables) (bits : List WireBit) (widths homes : List ℕ) (lows : List (Option ℕ)) (free : List Seg) → AreTables flat over tables → bits ≡ all_bits (widths_of flat.wires)
    → widths ≡ widths_of flat.wires → homes ≡ tables.homes.items → lows ≡ tables.lows.items → AreFreeSegs bits widths homes lows free → HasFree flat over free
laid-free flat over tables bits widths homes lows free t b w h l f =
    subst (λ s. AreFreeSegs s (widths_of flat.wires) (homes_of flat) (lows_of flat over) free) b
    (subst (λ s. AreFreeSegs bits s (homes_of flat) (lows_of flat over) free) w
    (subst (λ s. AreFreeSegs bits widths s (lows_of flat over) free) (h ∙ t.homes) (subst (λ s. AreFreeSegs bits widths homes s free) (l ∙ t.lows) f)))

pub all-free : (flat : Flat) → IsFlat flat → (over : List ℕ) (free : List Seg) → HasFree flat over free → All (IsFree flat over) free
all-free flat ok over free h i d lt =
    subst (λ s. IsFree flat over s) (get_or_default free i (record { wire = 0; lo = 0; width = 0 }) d lt) ((free-are flat ok over free h).each i lt)

pub all-nets : (flat : Flat) (over : List ℕ) (new : List Shape) (eqs : List NetEq) → All (λ e. IsEquation flat over new e.seg e.value) eqs → All (λ e. IsNet flat over e.seg) eqs
all-nets flat over new eqs h = All-weaker (λ (e : NetEq). IsEquation flat over new e.seg e.value) (λ (e : NetEq). IsNet flat over e.seg) (λ e is. is.net) eqs h

pub all-valued : (flat : Flat) (over : List ℕ) (new : List Shape) (eqs : List NetEq) → All (λ e. IsEquation flat over new e.seg e.value) eqs
    → All (λ e. (p : Phase) → value_at (reading p) new e.value ≡ map (resolution_at flat over p) (seg_bits e.seg)) eqs
all-valued flat over new eqs h =
    All-weaker (λ (e : NetEq). IsEquation flat over new e.seg e.value) (λ (e : NetEq). (p : Phase) → value_at (reading p) new e.value ≡ map (resolution_at flat over p) (seg_bits e.seg)) (λ e is. is.value) eqs h

pub all-mention : (flat : Flat) (over : List ℕ) (new : List Shape) (eqs : List NetEq) → All (λ e. IsEquation flat over new e.seg e.value) eqs
    → All (λ e. (wire : ℕ) → Mentions new e.value wire ↔ IsReadFor flat over e.seg wire) eqs
all-mention flat over new eqs h =
    All-weaker (λ (e : NetEq). IsEquation flat over new e.seg e.value) (λ (e : NetEq). (wire : ℕ) → Mentions new e.value wire ↔ IsReadFor flat over e.seg wire) (λ e is. is.mentions) eqs h

pub all-named : (flat : Flat) (over : List ℕ) (new : List Shape) (eqs : List NetEq) → AreEquations flat over new eqs → map (λ (e : NetEq). lowest_bit e.seg) eqs ≡ nets_of flat over
all-named flat over new eqs h = sym (map-map lowest_bit (λ (e : NetEq). e.seg) eqs) ∙ nets-named flat over (map (λ (e : NetEq). e.seg) eqs) h.segs

pub settles-exactly : (flat : Flat) → IsArena flat.arena → IsFlat flat → (over : List ℕ) (new : List Shape) (eqs : List NetEq) → AreEquations flat over new eqs → (stim prev now : Store)
    → Settles flat over stim prev now ↔ Solves (links_of flat.joins) new eqs (phase_of stim prev now)
settles-exactly flat a ok over new eqs h stim prev now =
    let all = equations-are flat a ok over new eqs h in
    (solves-settled flat a ok over new eqs all stim prev now, settled-solves flat a ok over new eqs all (nets-are_runs flat ok over (map (λ (e : NetEq). e.seg) eqs) h.segs) stim prev now)

pub least-exactly : (flat : Flat) → IsArena flat.arena → IsFlat flat → (over : List ℕ) (new : List Shape) (eqs : List NetEq) → AreEquations flat over new eqs → (stim prev now : Store)
    → IsLeastSettling flat over stim prev now ↔ IsLeastSolution (links_of flat.joins) new eqs stim prev now
least-exactly flat a ok over new eqs h stim prev now =
    let same = settles-exactly flat a ok over new eqs h stim prev in (
      λ l. record { solves = (same now).0 l.settles; least = λ t s. l.least t ((same t).1 s) },
      λ l. record { settles = (same now).1 l.solves; least = λ t s. l.least t ((same t).0 s) },
    )

pub resolved-exactly : (flat : Flat) → IsArena flat.arena → IsFlat flat → (over : List ℕ) (new : List Shape) (set : Resolved) → AreEquations flat over new set.eqs → HasFree flat over set.free
    → (kept : Kept) → Stands kept (links_of flat.joins) → kept.widths ≡ widths_of flat.wires → IsResolved kept new set
resolved-exactly flat a ok over new set h f =
    resolved-kept flat ok over new set (equations-are flat a ok over new set.eqs h) (nets-are_runs flat ok over (map (λ (e : NetEq). e.seg) set.eqs) h.segs) (free-are flat ok over set.free f)
