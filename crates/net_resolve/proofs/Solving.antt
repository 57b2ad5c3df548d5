-- Equations of nets: what each says, and that they solve exactly where a valuation settles.
use Rattle.std.proofs.Common.{◌≡◌, ◌↔◌, ℕ, ◌+◌, ◌-◌, ◌<◌, ◌≤◌, Bool, true, false, eqb, ◌&&◌, List, [], ◌∷◌, length, get_or, map, refl, sym, ap, ◌∙◌, subst, inl, inr, arith, zero-add}
use Rattle.std.specs.Prelude.{All, Option, Result, Ok, Err, IfOk, IsTrue, filter, slice_index}
use Rattle.std.specs.List.{Contains, range_with_len}
use Rattle.std.proofs.lemmas.Bool.{cases_lt, eqb-true, eq-eqb}
use Rattle.std.proofs.lemmas.Simd.{map-map}
use Rattle.std.proofs.lemmas.List.{ext_get_or, get_or-map, get_or_past, length-map}
use Rattle.std.proofs.lemmas.List.Elements.{All-filter, All-contains, filter_passes}
use Rattle.std.proofs.lemmas.List.FromFn.{get_or-map-range_with_len, length-map-range_with_len}
use Rattle.fourvec.specs.declared.Bit.{Bit}
use Rattle.fourvec.proofs.Tables.{left_of}
use Rattle.sv_outside.specs.declared.text.Signal.{Signal}
use Rattle.lhs_alias.specs.declared.segs.Seg.{Seg}
use Rattle.lhs_alias.specs.declared.segs.WireBit.{WireBit}
use Rattle.lhs_alias.specs.Segs.{bit, seg_bits, lhs_bits}
use Rattle.lhs_alias.specs.Lies.{LiesIn, IsBitOf}
use Rattle.lhs_alias.specs.Joined.{all_bits, place_of}
use Rattle.lhs_alias.proofs.Lying.{lhs_bits-lie}
use Rattle.lhs_alias.proofs.Row.{place-below, place-own, bit-at_place, all_bits-lie}
use Rattle.lhs_alias.proofs.SegBits.{length-seg_bits, get_or-seg_bits}
use Rattle.settling.specs.Settling.{first_bit, same_bit}
use Rattle.settling.specs.Events.{resolved}
use Rattle.settling.proofs.Classes.{same-name}
use Rattle.svex_shape.specs.declared.shape.Shape.{Shape}
use Rattle.svex_shape.specs.Shapes.{width_at}
use Rattle.svex_shape.specs.Values.{value_at, each_variable}
use Rattle.svex_arena.specs.Arenas.{IsArena}
use Rattle.driver_resolve.specs.declared.driver.NetEq.{NetEq}
use Rattle.driver_resolve.specs.Drivers.{Phase, reading, widths_of, IsDriver}
use Rattle.flat_net.specs.declared.flat.Flat.{Flat}
use Rattle.flat_net.specs.Flats.{IsSignal, IsFlat, links_of}
use Rattle.event_nets.specs.declared.gift.Gift.{Gift}
use Rattle.event_nets.specs.Gifts.{gift_bit, given_at, has_gift, overriding_gifts}
use Rattle.event_nets.specs.Nets.{is_net_bit, run_of, nets_of, low_of}
use Rattle.event_nets.specs.declared.tables.Tables.{Tables}
use Rattle.event_nets.specs.Tables.{home_of, gifts_of, lows_of, AreTables}
use Rattle.event_nets.proofs.Homes.{links-inside, first-inside}
use Rattle.event_nets.proofs.FlatNets.{nets-are, any-overriding}
use Rattle.event_nets.proofs.NetPlaces.{map-same}
use Rattle.event_nets.proofs.Making.{all-below}
use Rattle.net_equations.specs.Equations.{has_bit, seg_at, is_of_phase}
use Rattle.net_equations.specs.Groups.{Mentions}
use Rattle.net_resolve.specs.Pieces.{IsWithin, row_at, IsGivenRow, IsGivenRun, bit_of, row_bit, SomeMentions, HasInRun, AreMade}
use Rattle.net_resolve.specs.Runs.{AreRunSegs, begins_in}
use Rattle.net_resolve.specs.Laid.{AreRows, net_places_of, AreEquations}
use Rattle.net_resolve.specs.Resolving.{lowest_bit, IsNet, IsReadFor, resolution_at}
use Rattle.net_resolve.proofs.Ranges.{range-same}
use Rattle.net_resolve.proofs.Given.{values_in, stimuli_in, gift-same, has_some, some-given, gifts-give, net-given}
use Rattle.net_resolve.proofs.Sound.{HasKeptOrigin, in-filter, kept-given, all-within, all-origin}
use Rattle.net_resolve.proofs.Running.{has-parts, has-from, AreLows, IsRun, run-some, run-lies, begin-at, AreRuns, one-run, runs-are, place-up, run-start, run-bit}

-- ---- the nets' runs

pub narrow-wires : (wires : List Signal) → All IsSignal wires → (n : ℕ) → get_or (widths_of wires) n 0 ≤ 128
narrow-wires wires h n = elim (cases_lt n (length wires)) [
  | inl lt ↦
      let none : Signal = record { path = []; width = 0; input = false } in
      let most = (h n none lt).most in
      let is = get_or-map (λ (s : Signal). s.width) wires n none 0 lt in
      omega (arith, is, most)
  | inr past ↦
      let none = get_or_past (widths_of wires) n 0 (omega (arith, past, length-map wires (λ (s : Signal). s.width))) in
      omega (arith, none)
]

net-lows : (flat : Flat) (over : List ℕ) → AreLows (widths_of flat.wires) (is_net_bit flat over) (lows_of flat over)
unfolding low_of
net-lows flat over = refl

pub net-begins : (flat : Flat) (over : List ℕ) → begins_in (lows_of flat over) ≡ net_places_of flat over
net-begins flat over = nets-are flat over (lows_of flat over) refl

-- the segments of nets
abbrev pub HasNets : Flat → List ℕ → List Seg → Type 0
HasNets flat over segs = AreRunSegs (all_bits (widths_of flat.wires)) (lows_of flat over) (net_places_of flat over) segs

net-segs : (flat : Flat) (over : List ℕ) (segs : List Seg) → HasNets flat over segs → AreRunSegs (all_bits (widths_of flat.wires)) (lows_of flat over) (begins_in (lows_of flat over)) segs
net-segs flat over segs h = subst (λ runs. AreRunSegs (all_bits (widths_of flat.wires)) (lows_of flat over) runs segs) (sym (net-begins flat over)) h

pub nets-are_runs : (flat : Flat) → IsFlat flat → (over : List ℕ) (segs : List Seg) → HasNets flat over segs → AreRuns (widths_of flat.wires) (is_net_bit flat over) segs
nets-are_runs flat ok over segs h =
    runs-are (widths_of flat.wires) (is_net_bit flat over) (lows_of flat over) segs (narrow-wires flat.wires ok.wires) (net-lows flat over) (net-segs flat over segs h)

-- a run of a net, by its number
one-net : (flat : Flat) → IsFlat flat → (over : List ℕ) (segs : List Seg) → HasNets flat over segs → (i : ℕ) → i < length segs
    → IsRun (widths_of flat.wires) (is_net_bit flat over) (lows_of flat over) (slice_index (net_places_of flat over) i) (seg_at segs i)
one-net flat ok over segs h i lt =
    subst (λ runs. IsRun (widths_of flat.wires) (is_net_bit flat over) (lows_of flat over) (slice_index runs i) (seg_at segs i)) (net-begins flat over)
    (one-run (widths_of flat.wires) (is_net_bit flat over) (lows_of flat over) segs (narrow-wires flat.wires ok.wires) (net-lows flat over) (net-segs flat over segs h) i lt)

nets-inside : (flat : Flat) (over : List ℕ) → All (IsBitOf (widths_of flat.wires)) (nets_of flat over)
nets-inside flat over =
    let widths = widths_of flat.wires in
    All-filter (λ b. is_net_bit flat over b && same_bit (run_of flat over b) b) (IsBitOf widths) (all_bits widths) (all_bits-lie widths)

-- the segments' lowest bits are the nets
pub nets-named : (flat : Flat) (over : List ℕ) (segs : List Seg) → HasNets flat over segs → map lowest_bit segs ≡ nets_of flat over
nets-named flat over segs h =
    let widths = widths_of flat.wires in
    let nets = nets_of flat over in
    let none : Seg = record { wire = 0; lo = 0; width = 0 } in
    let many = h.as_many in
    let places = length-map nets (place_of widths) in
    ext_get_or (bit 0 0) (map lowest_bit segs) nets (length-map segs lowest_bit ∙ many ∙ places)
    (λ i lt.
    let below : i < length segs = omega (arith, lt, length-map segs lowest_bit) in
    let in_places : i < length (net_places_of flat over) = omega (arith, below, many) in
    let in_nets : i < length nets = omega (arith, in_places, places) in
    get_or-map lowest_bit segs i none (bit 0 0) below
    ∙ (h.each i in_places).lowest
    ∙ ap (λ k. get_or (all_bits widths) k (bit 0 0)) (get_or-map (place_of widths) nets i (bit 0 0) 0 in_nets)
    ∙ bit-at_place widths (get_or nets i (bit 0 0)) (bit 0 0) (nets-inside flat over i (bit 0 0) in_nets))

pub first-net : (flat : Flat) (over : List ℕ) (b : WireBit) → is_net_bit flat over b ≡ true → first_bit (links_of flat.joins) b ≡ b
unfolding is_net_bit
first-net flat over b t = same-name _ _ (left_of _ _ t)

-- a bit of a net's segment
record IsNetBit (flat : Flat) (over : List ℕ) (place : ℕ) (c : WireBit) : Type 0 where
  pub inside : IsBitOf (widths_of flat.wires) c
  pub net : is_net_bit flat over c ≡ true
  pub place_is : place_of (widths_of flat.wires) c ≡ place

net-bit : (flat : Flat) → IsFlat flat → (over : List ℕ) (segs : List Seg) → HasNets flat over segs → (i j : ℕ) → i < length segs → j < (seg_at segs i).width
    → IsNetBit flat over (slice_index (net_places_of flat over) i + j) (bit (seg_at segs i).wire ((seg_at segs i).lo + j))
net-bit flat ok over segs h i j lt below =
    let widths = widths_of flat.wires in
    let test : WireBit → Bool = is_net_bit flat over in
    let low = slice_index (net_places_of flat over) i in
    let seg = seg_at segs i in
    let run = one-net flat ok over segs h i lt in
    let here = run-bit widths test (lows_of flat over) low seg run j below in
    record {
      inside = here.0;
      net = here.1.0;
      place_is = place-up widths seg.wire seg.lo j ∙ ap (λ k. k + j) (run-start widths test (lows_of flat over) low seg run).1;
    }

-- ---- what is given to them

some-long : {X : Type 0} (l : List X) → has_some l ≡ true → 1 ≤ length l
some-long [] e = let f : false ≡ true = e in cc
some-long (x ∷ l) e = omega arith

row-given : (flat : Flat) → IsFlat flat → (over : List ℕ) (c : WireBit) → IsBitOf (widths_of flat.wires) c → is_net_bit flat over c ≡ true
    → IsGivenRow (widths_of flat.wires) flat.arena (filter (λ g. eqb g.to (place_of (widths_of flat.wires) c)) (gifts_of flat over))
row-given flat ok over c ic t =
    let place = place_of (widths_of flat.wires) c in
    let gifts = gifts_of flat over in
    let test : Gift → Bool = λ g. eqb g.to place in
    let row = filter test gifts in
    let long = some-long (given_at [] [] place gifts) (sym (some-given [] [] place gifts) ∙ net-given flat ok over c ic (first-net flat over c t) ∙ t) in
    record {
      some = omega (arith, long, length-map row (gift_bit [] []));
      within = All-filter test (IsWithin (widths_of flat.wires) flat.arena 1) gifts (all-within flat ok over);
    }

row-here : (flat : Flat) (over : List ℕ) (rows : List (List Gift)) → AreRows flat over rows → (k : ℕ) (c : WireBit) → IsNetBit flat over k c
    → row_at rows k ≡ filter (λ g. eqb g.to (place_of (widths_of flat.wires) c)) (gifts_of flat over)
row-here flat over rows r k c n =
    let widths = widths_of flat.wires in
    let below = place-below widths c n.inside in
    let is = n.place_is in
    r k (omega (arith, below, is)) ∙ ap (λ j. filter (λ g. eqb g.to j) (gifts_of flat over)) (sym is)

-- something is given to each class of a net
pub nets-given : (flat : Flat) → IsFlat flat → (over : List ℕ) (rows : List (List Gift)) → length rows ≡ length (all_bits (widths_of flat.wires)) → AreRows flat over rows
    → (segs : List Seg) → HasNets flat over segs → (i : ℕ) → i < length segs → IsGivenRun (widths_of flat.wires) flat.arena rows (slice_index (net_places_of flat over) i) (seg_at segs i).width
nets-given flat ok over rows long r segs h i lt =
    let widths = widths_of flat.wires in
    let test : WireBit → Bool = is_net_bit flat over in
    let low = slice_index (net_places_of flat over) i in
    let seg = seg_at segs i in
    let run = one-net flat ok over segs h i lt in
    let some = run-some widths test (lows_of flat over) low seg run in
    let lies = run-lies widths test (lows_of flat over) low seg run in
    let most = lies.whole.ends in
    let last = net-bit flat ok over segs h i (seg.width - 1) lt (omega (arith, some)) in
    let at = last.place_is in
    let below = place-below widths (bit seg.wire (seg.lo + (seg.width - 1))) last.inside in
    record {
      some = some;
      most = omega (arith, most);
      inside = omega (arith, at, below, long, some);
      given = λ j l.
          let n = net-bit flat ok over segs h i j lt l in
          subst (λ row. IsGivenRow widths flat.arena row) (sym (row-here flat over rows r (low + j) (bit seg.wire (seg.lo + j)) n)) (row-given flat ok over (bit seg.wire (seg.lo + j)) n.inside n.net);
    }

net-place : (flat : Flat) (over : List ℕ) (c : WireBit) → is_net_bit flat over c ≡ true → place_of (widths_of flat.wires) c ≡ home_of (links_of flat.joins) (widths_of flat.wires) c
net-place flat over c t = ap (λ x. place_of (widths_of flat.wires) x) (sym (first-net flat over c t))

row-tells : (flat : Flat) → IsArena flat.arena → IsFlat flat → (over : List ℕ) (p : Phase) (rows : List (List Gift)) → AreRows flat over rows → (k : ℕ) (c : WireBit) → IsNetBit flat over k c
    → row_bit (widths_of flat.wires) flat.arena p 0 (row_at rows k) ≡ resolution_at flat over p c
row-tells flat a ok over p rows r k c n =
    let widths = widths_of flat.wires in
    let place = place_of widths c in
    let gifts = gifts_of flat over in
    let values = values_in flat.arena p in
    let stim = stimuli_in widths p in
    let test : Gift → Bool = λ g. eqb g.to place in
    let row = filter test gifts in
    let f : Gift → Bit = bit_of widths flat.arena p 0 in
    let g : Gift → Bit = gift_bit values stim in
    ap (λ l. resolved (map f l)) (row-here flat over rows r k c n)
    ∙ ap resolved (map-same (IsWithin widths flat.arena 1) f g (λ x w. sym (gift-same widths flat.arena p x w.source)) row (All-filter test (IsWithin widths flat.arena 1) gifts (all-within flat ok over)))
    ∙ ap (λ j. resolved (given_at values stim j gifts)) (net-place flat over c n.net)
    ∙ ap resolved (gifts-give flat a ok over p c n.inside)

-- ---- bits of segments

pub seg-bits : (seg : Seg) → seg_bits seg ≡ map (λ j. bit seg.wire (seg.lo + j)) (range_with_len 0 seg.width)
seg-bits seg =
    let f : ℕ → WireBit = λ j. bit seg.wire (seg.lo + j) in
    let long = length-seg_bits seg in
    ext_get_or (bit 0 0) (seg_bits seg) (map f (range_with_len 0 seg.width)) (long ∙ sym (length-map-range_with_len f 0 seg.width))
    (λ i lt.
    let below : i < seg.width = omega (arith, lt, long) in
    get_or-seg_bits seg i (bit 0 0) below ∙ sym (get_or-map-range_with_len f 0 seg.width i i (bit 0 0) below (zero-add i)))

pub bits-have : (seg : Seg) → All (λ c. IsTrue (has_bit seg c)) (seg_bits seg)
bits-have seg i d lt =
    let below : i < seg.width = omega (arith, lt, length-seg_bits seg) in
    subst (λ c. IsTrue (has_bit seg c)) (sym (get_or-seg_bits seg i d below)) (has-from seg (bit seg.wire (seg.lo + i)) refl (omega arith) (omega (arith, below)))

-- ---- one equation

pub record IsEquation (flat : Flat) (over : List ℕ) (new : List Shape) (seg : Seg) (node : ℕ) : Type 0 where
  pub lies : LiesIn (widths_of flat.wires) seg
  pub net : IsNet flat over seg
  pub there : node < length new
  pub wide : width_at new node ≡ seg.width
  pub phase : IsTrue (each_variable (is_of_phase (widths_of flat.wires)) new node)
  pub value : (p : Phase) → value_at (reading p) new node ≡ map (resolution_at flat over p) (seg_bits seg)
  pub mentions : (wire : ℕ) → Mentions new node wire ↔ IsReadFor flat over seg wire

read-for : (flat : Flat) → IsFlat flat → (over : List ℕ) (rows : List (List Gift)) → AreRows flat over rows → (segs : List Seg) → HasNets flat over segs → (i : ℕ) → i < length segs → (wire : ℕ)
    → SomeMentions flat.arena (HasInRun rows (slice_index (net_places_of flat over) i) (seg_at segs i).width) wire → IsReadFor flat over (seg_at segs i) wire
read-for flat ok over rows r segs h i lt wire m =
    let widths = widths_of flat.wires in
    let links = links_of flat.joins in
    let home = home_of links widths in
    let seg = seg_at segs i in
    let low = slice_index (net_places_of flat over) i in
    let above = m.is.above in
    let below = m.is.below in
    let c = bit seg.wire (seg.lo + above) in
    let n = net-bit flat ok over segs h i above lt below in
    let test : Gift → Bool = λ g. eqb g.to (place_of widths c) in
    let gifts = gifts_of flat over in
    let set = overriding_gifts home 0 flat.wires over in
    let here : Contains (filter test gifts) m.gift = subst (λ row. Contains row m.gift) (row-here flat over rows r (low + above) c n) m.is.is in
    let to : m.gift.to ≡ place_of widths c = eqb-true m.gift.to (place_of widths c) (All-contains (λ g. test g ≡ true) (filter test gifts) m.gift (filter_passes test gifts) here) in
    let kept = All-contains (HasKeptOrigin home flat.drivers set) (filter test gifts) m.gift (All-filter test (HasKeptOrigin home flat.drivers set) gifts (all-origin flat over)) here m.node m.from in
    let o = kept.0 in
    let drives : IsDriver widths flat.arena o.driver = All-contains (IsDriver widths flat.arena) flat.drivers o.driver ok.drivers o.stands in
    let it : IsBitOf widths o.target = All-contains (IsBitOf widths) (lhs_bits o.driver.target) o.target (lhs_bits-lie widths o.driver.target drives.lies) o.drives in
    let first : first_bit links o.target ≡ c = place-own widths (first_bit links o.target) c (first-inside widths links (links-inside widths flat.joins ok.joins) o.target it) n.inside (o.home_is ∙ to) in
    record {
      driver = o.driver;
      stands = o.stands;
      mentions = subst (λ k. Mentions flat.arena k wire) (sym o.value) m.mentions;
      target = o.target;
      drives = o.drives;
      joined = subst (λ x. IsTrue (has_bit seg x)) (sym first) (has-from seg c refl (omega arith) (omega (arith, below)));
      kept = sym (any-overriding flat ok over o.target it) ∙ ap (λ k. has_gift set k) o.home_is ∙ kept.1;
    }

for-read : (flat : Flat) → IsFlat flat → (over : List ℕ) (rows : List (List Gift)) → AreRows flat over rows → (segs : List Seg) → HasNets flat over segs → (i : ℕ) → i < length segs → (wire : ℕ)
    → IsReadFor flat over (seg_at segs i) wire → SomeMentions flat.arena (HasInRun rows (slice_index (net_places_of flat over) i) (seg_at segs i).width) wire
for-read flat ok over rows r segs h i lt wire m =
    let widths = widths_of flat.wires in
    let links = links_of flat.joins in
    let home = home_of links widths in
    let seg = seg_at segs i in
    let low = slice_index (net_places_of flat over) i in
    let drives : IsDriver widths flat.arena m.driver = All-contains (IsDriver widths flat.arena) flat.drivers m.driver ok.drivers m.stands in
    let it : IsBitOf widths m.target = All-contains (IsBitOf widths) (lhs_bits m.driver.target) m.target (lhs_bits-lie widths m.driver.target drives.lies) m.drives in
    let first = first_bit links m.target in
    let parts = has-parts seg first m.joined in
    let from_low = parts.1.0 in
    let to_high = parts.1.1 in
    let above = first.at - seg.lo in
    let below : above < seg.width = omega (arith, from_low, to_high) in
    let c = bit seg.wire (seg.lo + above) in
    let same : c ≡ first = λ p. record { wire = parts.0 p; at = (let at : seg.lo + above ≡ first.at = omega (arith, from_low) in at) p } in
    let n = net-bit flat ok over segs h i above lt below in
    let test : Gift → Bool = λ g. eqb g.to (place_of widths c) in
    let gifts = gifts_of flat over in
    let g = kept-given flat over m.driver m.target m.stands m.drives (any-overriding flat ok over m.target it ∙ m.kept) in
    let to : g.gift.to ≡ place_of widths c = g.to_is ∙ ap (place_of widths) (sym same) in
    let here : Contains (filter test gifts) g.gift = in-filter test gifts g.gift g.stands (eq-eqb g.gift.to (place_of widths c) to) in
    record {
      gift = g.gift;
      is = record { above = above; below = below; is = subst (λ row. Contains row g.gift) (sym (row-here flat over rows r (low + above) c n)) here };
      node = m.driver.value;
      from = g.from_is;
      mentions = m.mentions;
    }

pub equation-is : (flat : Flat) → IsArena flat.arena → IsFlat flat → (over : List ℕ) (rows : List (List Gift)) → AreRows flat over rows → (segs : List Seg) → HasNets flat over segs
    → (new : List Shape) (nodes : List ℕ) → AreMade (widths_of flat.wires) flat.arena rows (net_places_of flat over) segs new nodes
    → (i : ℕ) → i < length segs → IsEquation flat over new (seg_at segs i) (slice_index nodes i)
equation-is flat a ok over rows r segs h new nodes made i lt =
    let widths = widths_of flat.wires in
    let runs = nets-are_runs flat ok over segs h in
    let seg = seg_at segs i in
    let low = slice_index (net_places_of flat over) i in
    let m = made.each i lt in
    record {
      lies = runs.lie i lt;
      net = runs.each i lt;
      there = m.there;
      wide = m.wide;
      phase = m.phase;
      value = λ p.
          let f : ℕ → WireBit = λ j. bit seg.wire (seg.lo + j) in
          m.value p
          ∙ range-same (λ j. row_bit widths flat.arena p 0 (row_at rows (low + j))) (λ j. resolution_at flat over p (f j)) seg.width
          (λ j l. row-tells flat a ok over p rows r (low + j) (f j) (net-bit flat ok over segs h i j lt l))
          ∙ sym (map-map (resolution_at flat over p) f (range_with_len 0 seg.width))
          ∙ ap (λ l. map (resolution_at flat over p) l) (sym (seg-bits seg));
      mentions = λ wire. (
        λ n. read-for flat ok over rows r segs h i lt wire ((m.mentions wire).0 n),
        λ n. (m.mentions wire).1 (for-read flat ok over rows r segs h i lt wire n),
      );
    }

-- all of them
pub equations-are : (flat : Flat) → IsArena flat.arena → IsFlat flat → (over : List ℕ) (new : List Shape) (eqs : List NetEq) → AreEquations flat over new eqs → All (λ e. IsEquation flat over new e.seg e.value) eqs
equations-are flat a ok over new eqs h i d lt =
    let seg : NetEq → Seg = λ e. e.seg in
    let value : NetEq → ℕ = λ e. e.value in
    let is = equation-is flat a ok over h.rows h.rows_are (map seg eqs) h.segs new (map value eqs) h.made i (omega (arith, lt, length-map eqs seg)) in
    subst (λ k. IsEquation flat over new (get_or eqs i d).seg k) (get_or-map value eqs i d 0 lt)
    (subst (λ s. IsEquation flat over new s (slice_index (map value eqs) i)) (get_or-map seg eqs i d (record { wire = 0; lo = 0; width = 0 }) lt) is)

-- ---- by the tables

pub homes-long : (flat : Flat) (over : List ℕ) (tables : Tables) → AreTables flat over tables → length tables.homes.items ≡ length (all_bits (widths_of flat.wires))
homes-long flat over tables t = ap (λ l. length l) t.homes ∙ length-map (all_bits (widths_of flat.wires)) (home_of (links_of flat.joins) (widths_of flat.wires))

pub lows-long : (flat : Flat) (over : List ℕ) (tables : Tables) → AreTables flat over tables → length tables.lows.items ≡ length (all_bits (widths_of flat.wires))
lows-long flat over tables t = ap (λ l. length l) t.lows ∙ length-map (all_bits (widths_of flat.wires)) (low_of (place_of (widths_of flat.wires)) flat over)

pub gifts-below : (flat : Flat) → IsFlat flat → (over : List ℕ) (tables : Tables) → AreTables flat over tables → All (λ g. g.to < length tables.homes.items) tables.gifts.items
gifts-below flat ok over tables t =
    subst (λ n. All (λ g. g.to < n) tables.gifts.items) (sym (homes-long flat over tables t)) (subst (λ l. All (λ g. g.to < length (all_bits (widths_of flat.wires))) l) (sym t.gifts) (all-below flat ok over))

pub nets-below : (flat : Flat) (over : List ℕ) (tables : Tables) → AreTables flat over tables → (i : ℕ) → i < length tables.nets.items → slice_index tables.nets.items i < length tables.lows.items
nets-below flat over tables t =
    subst (λ l. (i : ℕ) → i < length l → slice_index l i < length tables.lows.items) (sym t.nets)
    (subst (λ l. (i : ℕ) → i < length (net_places_of flat over) → slice_index (net_places_of flat over) i < length l) (sym t.lows)
    (subst (λ l. (i : ℕ) → i < length l → slice_index l i < length (lows_of flat over)) (net-begins flat over) (λ i lt. (begin-at (lows_of flat over) i lt).0)))

-- the segments of nets, and rows, as they are made of the tables
pub table-segs : (flat : Flat) (over : List ℕ) (tables : Tables) (bits : List WireBit) (segs : List Seg) → AreTables flat over tables → bits ≡ all_bits (widths_of flat.wires)
    → AreRunSegs bits tables.lows.items tables.nets.items segs → HasNets flat over segs
table-segs flat over tables bits segs t e h =
    subst (λ l. AreRunSegs (all_bits (widths_of flat.wires)) (lows_of flat over) l segs) t.nets
    (subst (λ l. AreRunSegs (all_bits (widths_of flat.wires)) l tables.nets.items segs) t.lows (subst (λ l. AreRunSegs l tables.lows.items tables.nets.items segs) e h))

pub table-rows : (flat : Flat) (over : List ℕ) (tables : Tables) (rows : List (List Gift)) → AreTables flat over tables
    → ((k : ℕ) → k < length tables.homes.items → get_or rows k [] ≡ filter (λ g. eqb g.to k) tables.gifts.items) → AreRows flat over rows
table-rows flat over tables rows t h =
    subst (λ l. (k : ℕ) → k < length (all_bits (widths_of flat.wires)) → get_or rows k [] ≡ filter (λ g. eqb g.to k) l) t.gifts
    (subst (λ n. (k : ℕ) → k < n → get_or rows k [] ≡ filter (λ g. eqb g.to k) tables.gifts.items) (homes-long flat over tables t) h)

-- what is made of the tables, by what slices of them show

pub laid-rows : (flat : Flat) (over : List ℕ) (tables : Tables) (rows : List (List Gift)) (len : ℕ) (gifts : List Gift) → AreTables flat over tables → len ≡ length tables.homes.items → gifts ≡ tables.gifts.items
    → ((k : ℕ) → k < len → get_or rows k [] ≡ filter (λ g. eqb g.to k) gifts) → AreRows flat over rows
laid-rows flat over tables rows len gifts t l g h =
    table-rows flat over tables rows t
    (subst (λ n. (k : ℕ) → k < n → get_or rows k [] ≡ filter (λ g. eqb g.to k) tables.gifts.items) l
    (subst (λ s. (k : ℕ) → k < len → get_or rows k [] ≡ filter (λ g. eqb g.to k) s) g h))

pub laid-segs : (flat : Flat) (over : List ℕ) (tables : Tables) (bits : List WireBit) (lows : List (Option ℕ)) (runs : List ℕ) (segs : List Seg) → AreTables flat over tables → bits ≡ all_bits (widths_of flat.wires)
    → lows ≡ tables.lows.items → runs ≡ tables.nets.items → AreRunSegs bits lows runs segs → HasNets flat over segs
laid-segs flat over tables bits lows runs segs t e l r h =
    table-segs flat over tables bits segs t e (subst (λ s. AreRunSegs bits tables.lows.items s segs) r (subst (λ s. AreRunSegs bits s runs segs) l h))

pub laid-given : (flat : Flat) → IsFlat flat → (over : List ℕ) (tables : Tables) (rows rows2 : List (List Gift)) (segs segs2 : List Seg) (nets : List ℕ) (wires : List Signal) → AreTables flat over tables
    → length rows ≡ length tables.homes.items → AreRows flat over rows → HasNets flat over segs → wires ≡ flat.wires → rows2 ≡ rows → nets ≡ tables.nets.items → segs2 ≡ segs
    → (i : ℕ) → i < length segs2 → IsGivenRun (widths_of wires) flat.arena rows2 (slice_index nets i) (seg_at segs2 i).width
laid-given flat ok over tables rows rows2 segs segs2 nets wires t long r h w e n s =
    subst (λ l. (i : ℕ) → i < length segs2 → IsGivenRun (widths_of l) flat.arena rows2 (slice_index nets i) (seg_at segs2 i).width) (sym w)
    (subst (λ l. (i : ℕ) → i < length segs2 → IsGivenRun (widths_of flat.wires) flat.arena l (slice_index nets i) (seg_at segs2 i).width) (sym e)
    (subst (λ l. (i : ℕ) → i < length segs2 → IsGivenRun (widths_of flat.wires) flat.arena rows (slice_index l i) (seg_at segs2 i).width) (sym (n ∙ t.nets))
    (subst (λ l. (i : ℕ) → i < length l → IsGivenRun (widths_of flat.wires) flat.arena rows (slice_index (net_places_of flat over) i) (seg_at l i).width) (sym s)
    (nets-given flat ok over rows (long ∙ homes-long flat over tables t) r segs h))))

pub laid-equations : (flat : Flat) (over : List ℕ) (tables : Tables) (rows rows2 : List (List Gift)) (segs segs2 : List Seg) (nets : List ℕ) (wires : List Signal) (new : List Shape) (eqs : List NetEq) → AreTables flat over tables
    → AreRows flat over rows → HasNets flat over segs → wires ≡ flat.wires → rows2 ≡ rows → nets ≡ tables.nets.items → segs2 ≡ segs → map (λ (x : NetEq). x.seg) eqs ≡ segs2
    → AreMade (widths_of wires) flat.arena rows2 nets segs2 new (map (λ (x : NetEq). x.value) eqs) → AreEquations flat over new eqs
laid-equations flat over tables rows rows2 segs segs2 nets wires new eqs t r h w e n s q m = record {
  rows = rows;
  rows_are = r;
  segs = subst (λ l. HasNets flat over l) (sym (q ∙ s)) h;
  made =
      subst (λ l. AreMade (widths_of l) flat.arena rows (net_places_of flat over) (map (λ (x : NetEq). x.seg) eqs) new (map (λ (x : NetEq). x.value) eqs)) w
      (subst (λ l. AreMade (widths_of wires) flat.arena l (net_places_of flat over) (map (λ (x : NetEq). x.seg) eqs) new (map (λ (x : NetEq). x.value) eqs)) e
      (subst (λ l. AreMade (widths_of wires) flat.arena rows2 l (map (λ (x : NetEq). x.seg) eqs) new (map (λ (x : NetEq). x.value) eqs)) (n ∙ t.nets)
      (subst (λ l. AreMade (widths_of wires) flat.arena rows2 nets l new (map (λ (x : NetEq). x.value) eqs)) (sym q) m)));
}

pub if_both : {T E : Type 0} (r : Result T E) (P Q R : T → Type 0) → IfOk r P → IfOk r Q → ((x : T) → P x → Q x → R x) → IfOk r R
if_both (Ok x) P Q R p q f = f x p q
if_both (Err y) P Q R p q f = tt
