-- The places of nets are those of the flat design's nets.
use Rattle.std.proofs.Common.{◌≡◌, ℕ, suc, ◌+◌, ◌-◌, ◌<◌, ◌≤◌, Bool, true, false, cond, eqb, ◌&&◌, ◌||◌, List, [], ◌∷◌, ◌++◌, length, get_or, map, take, sum, refl, sym, ap, ◌∙◌, inl, inr, arith, zero-add, append_assoc, length-append}
use Rattle.std.specs.Prelude.{All, Option, None, Some, filter}
use Rattle.std.specs.List.{list_any, range_with_len}
use Rattle.std.proofs.lemmas.List.FromFn.{length-range_with_len, get_or-range_with_len}
use Rattle.std.proofs.lemmas.Bool.{cases_lt}
use Rattle.std.proofs.lemmas.List.{take_at, ext_get_or, length-map, get_or-map, get_or_append_left, get_or-append_right}
use Rattle.std.proofs.lemmas.List.Sums.{sum_by-append, sum_by-cons}
use Rattle.std.proofs.lemmas.List.Elements.{All-head, All-tail}
use Rattle.std.proofs.lemmas.List.Folds.{list_any-append}
use Rattle.sv_outside.specs.declared.text.Signal.{Signal}
use Rattle.lhs_alias.specs.declared.segs.WireBit.{WireBit}
use Rattle.lhs_alias.specs.Segs.{bit, seg_bits, lhs_bits}
use Rattle.lhs_alias.specs.Lies.{IsBitOf}
use Rattle.lhs_alias.specs.Joined.{bits_from, all_bits, place_of}
use Rattle.lhs_alias.proofs.Lying.{lhs_bits-lie}
use Rattle.lhs_alias.proofs.Row.{all_bits-lie, place-below}
use Rattle.lhs_alias.proofs.SegBits.{length-seg_bits, get_or-seg_bits}
use Rattle.lhs_alias.specs.declared.segs.Seg.{Seg}
use Rattle.settling.specs.Settling.{Link, first_bit, same_bit, is_one_class}
use Rattle.settling.proofs.Classes.{same-name}
use Rattle.driver_resolve.specs.declared.driver.Driver.{Driver}
use Rattle.driver_resolve.specs.Drivers.{wire_bits, widths_of, IsDriver}
use Rattle.flat_net.specs.declared.flat.Flat.{Flat}
use Rattle.flat_net.specs.Flats.{IsFlat, links_of}
use Rattle.event_nets.specs.declared.gift.Gift.{Gift}
use Rattle.event_nets.specs.declared.gift.Source.{Source}
use Rattle.event_nets.specs.declared.gift.Source.TheVariants.{Value, Stimulus}
use Rattle.event_nets.specs.Gifts.{gifts_at, gifts_to, driver_gifts, stimulus_gifts, overriding_gifts, has_gift}
use Rattle.event_nets.specs.Nets.{target_bits, input_bits, overridden_bits, is_driven, is_net_bit, lowest, run_of, nets_of, low_of}
use Rattle.event_nets.specs.Runs.{net_test, low_in, lows_in, is_at, begins}
use Rattle.event_nets.specs.Tables.{home_of, own_gifts, gifts_of}
use Rattle.event_nets.proofs.Homes.{IsInside, links-inside, first-inside, place-test, home-at, mapped-at}
use Rattle.event_nets.proofs.Giving.{AreWires, wires-rest, wire-lies, wires-are}
use Rattle.event_nets.proofs.Cutting.{as_inputs, gifts-as_inputs, bits-as_inputs, wires-as_inputs, any-left}
use Rattle.event_nets.proofs.NetPlaces.{map-same, filter-same, filter-map, lowest-same, lowest-le}

-- ---- what is driven

any-gifts : (widths : List ℕ) (links : List Link) → All (IsInside widths) links → (b : WireBit) → IsBitOf widths b → (from : Source) (at : ℕ) (bits : List WireBit) → All (IsBitOf widths) bits
    → list_any (λ g. eqb g.to (home_of links widths b)) (gifts_to (home_of links widths) from at bits) ≡ list_any (λ c. is_one_class links c b) bits
unfolding gifts_at
any-gifts widths links i b ib from at [] h = refl
any-gifts widths links i b ib from at (c ∷ bits) h =
    let inside : IsBitOf widths c = All-head (IsBitOf widths) c bits h in
    ap (λ t. t || list_any (λ g. eqb g.to (home_of links widths b)) (gifts_to (home_of links widths) from (suc at) bits))
    (place-test widths (first_bit links c) (first_bit links b) (first-inside widths links i c inside) (first-inside widths links i b ib))
    ∙ ap (λ t. is_one_class links c b || t) (any-gifts widths links i b ib from (suc at) bits (All-tail (IsBitOf widths) c bits h))

any-driver : (flat : Flat) → (widths : List ℕ) (links : List Link) → All (IsInside widths) links → (b : WireBit) → IsBitOf widths b → (drivers : List Driver) → All (IsDriver widths flat.arena) drivers
    → list_any (λ g. eqb g.to (home_of links widths b)) (driver_gifts (home_of links widths) drivers) ≡ list_any (λ c. is_one_class links c b) (target_bits drivers)
unfolding driver_gifts target_bits
any-driver flat widths links i b ib [] h = refl
any-driver flat widths links i b ib (d ∷ more) h =
    let test : Gift → Bool = λ g. eqb g.to (home_of links widths b) in
    let class : WireBit → Bool = λ c. is_one_class links c b in
    list_any-append test (gifts_to (home_of links widths) (Value d.value) 0 (lhs_bits d.target)) (driver_gifts (home_of links widths) more)
    ∙ ap (λ t. t || list_any test (driver_gifts (home_of links widths) more))
    (any-gifts widths links i b ib (Value d.value) 0 (lhs_bits d.target) (lhs_bits-lie widths d.target (All-head (IsDriver widths flat.arena) d more h).lies))
    ∙ ap (λ t. list_any class (lhs_bits d.target) || t) (any-driver flat widths links i b ib more (All-tail (IsDriver widths flat.arena) d more h))
    ∙ sym (list_any-append class (lhs_bits d.target) (target_bits more))

any-chosen : (widths : List ℕ) (links : List Link) → All (IsInside widths) links → (b : WireBit) → IsBitOf widths b → (n w : ℕ) (t : Bool) → All (IsBitOf widths) (wire_bits n w)
    → list_any (λ g. eqb g.to (home_of links widths b)) (cond t (gifts_to (home_of links widths) (Stimulus n) 0 (wire_bits n w)) []) ≡ list_any (λ c. is_one_class links c b) (cond t (wire_bits n w) [])
any-chosen widths links i b ib n w true h = any-gifts widths links i b ib (Stimulus n) 0 (wire_bits n w) h
any-chosen widths links i b ib n w false h = refl

any-input : (widths : List ℕ) (links : List Link) → All (IsInside widths) links → (b : WireBit) → IsBitOf widths b → (n : ℕ) (wires : List Signal) → AreWires widths n wires
    → list_any (λ g. eqb g.to (home_of links widths b)) (stimulus_gifts (home_of links widths) n wires) ≡ list_any (λ c. is_one_class links c b) (input_bits n wires)
unfolding stimulus_gifts input_bits
any-input widths links i b ib n [] h = refl
any-input widths links i b ib n (s ∷ more) h =
    let test : Gift → Bool = λ g. eqb g.to (home_of links widths b) in
    let class : WireBit → Bool = λ c. is_one_class links c b in
    list_any-append test (cond s.input (gifts_to (home_of links widths) (Stimulus n) 0 (wire_bits n s.width)) []) (stimulus_gifts (home_of links widths) (suc n) more)
    ∙ ap (λ t. t || list_any test (stimulus_gifts (home_of links widths) (suc n) more)) (any-chosen widths links i b ib n s.width s.input (wire-lies widths n s more h))
    ∙ ap (λ t. list_any class (cond s.input (wire_bits n s.width) []) || t) (any-input widths links i b ib (suc n) more (wires-rest widths n s more h))
    ∙ sym (list_any-append class (cond s.input (wire_bits n s.width) []) (input_bits (suc n) more))

-- ---- what is driven or overridden

any-own : (flat : Flat) → IsFlat flat → (b : WireBit) → IsBitOf (widths_of flat.wires) b
    → has_gift (own_gifts flat) (home_of (links_of flat.joins) (widths_of flat.wires) b) ≡ list_any (λ c. is_one_class (links_of flat.joins) c b) (target_bits flat.drivers ++ input_bits 0 flat.wires)
any-own flat ok b ib =
    let widths = widths_of flat.wires in
    let links = links_of flat.joins in
    let home = home_of links widths in
    let inside = links-inside widths flat.joins ok.joins in
    list_any-append (λ g. eqb g.to (home b)) (driver_gifts home flat.drivers) (stimulus_gifts home 0 flat.wires)
    ∙ ap (λ u. u || has_gift (stimulus_gifts home 0 flat.wires) (home b)) (any-driver flat widths links inside b ib flat.drivers ok.drivers)
    ∙ ap (λ u. list_any (λ c. is_one_class links c b) (target_bits flat.drivers) || u) (any-input widths links inside b ib 0 flat.wires (wires-are flat.wires))
    ∙ sym (list_any-append (λ c. is_one_class links c b) (target_bits flat.drivers) (input_bits 0 flat.wires))

pub any-overriding : (flat : Flat) → IsFlat flat → (over : List ℕ) (b : WireBit) → IsBitOf (widths_of flat.wires) b
    → has_gift (overriding_gifts (home_of (links_of flat.joins) (widths_of flat.wires)) 0 flat.wires over) (home_of (links_of flat.joins) (widths_of flat.wires) b)
    ≡ list_any (λ c. is_one_class (links_of flat.joins) c b) (overridden_bits 0 flat.wires over)
any-overriding flat ok over b ib =
    let widths = widths_of flat.wires in
    let links = links_of flat.joins in
    let home = home_of links widths in
    ap (λ l. has_gift l (home b)) (gifts-as_inputs home 0 flat.wires over)
    ∙ any-input widths links (links-inside widths flat.joins ok.joins) b ib 0 (as_inputs 0 flat.wires over) (wires-as_inputs flat.wires over)
    ∙ ap (λ l. list_any (λ c. is_one_class links c b) l) (sym (bits-as_inputs 0 flat.wires over))

-- a class has a gift exactly where it is driven or overridden
any-given : (flat : Flat) → IsFlat flat → (over : List ℕ) (b : WireBit) → IsBitOf (widths_of flat.wires) b
    → has_gift (gifts_of flat over) (home_of (links_of flat.joins) (widths_of flat.wires) b) ≡ is_driven flat over b
any-given flat ok over b ib =
    let links = links_of flat.joins in
    let home = home_of links (widths_of flat.wires) in
    let class : WireBit → Bool = λ c. is_one_class links c b in
    let targets = target_bits flat.drivers in
    let inputs = input_bits 0 flat.wires in
    let bits = overridden_bits 0 flat.wires over in
    any-left (overriding_gifts home 0 flat.wires over) (own_gifts flat) (home b)
    ∙ ap (λ u. u || has_gift (overriding_gifts home 0 flat.wires over) (home b)) (any-own flat ok b ib)
    ∙ ap (λ u. list_any class (targets ++ inputs) || u) (any-overriding flat ok over b ib)
    ∙ sym (list_any-append class (targets ++ inputs) bits)

-- ---- net bits

and-same : (p q r s : Bool) → p ≡ q → (q ≡ true → r ≡ s) → (p && r) ≡ (q && s)
and-same p true r s e h = ap (λ t. t && r) e ∙ h refl
and-same p false r s e h = ap (λ t. t && r) e

-- the tables that tell nets
pub record AreNetTables (flat : Flat) (over : List ℕ) (homes : List ℕ) (driven : List Bool) (gifts : List Gift) : Type 0 where
  pub homes_are : homes ≡ map (home_of (links_of flat.joins) (widths_of flat.wires)) (all_bits (widths_of flat.wires))
  pub gifts_are : gifts ≡ gifts_of flat over
  pub driven_are : (place : ℕ) → place < length (all_bits (widths_of flat.wires)) → get_or driven place false ≡ list_any (λ g. eqb g.to place) gifts

pub net-is : (flat : Flat) → IsFlat flat → (over : List ℕ) (homes : List ℕ) (driven : List Bool) (gifts : List Gift) → AreNetTables flat over homes driven gifts → (b : WireBit) → IsBitOf (widths_of flat.wires) b
    → net_test homes driven (place_of (widths_of flat.wires) b) ≡ is_net_bit flat over b
unfolding is_net_bit
net-is flat ok over homes driven gifts t b ib =
    let widths = widths_of flat.wires in
    let links = links_of flat.joins in
    let home = home_of links widths in
    let inside = links-inside widths flat.joins ok.joins in
    let place = place_of widths b in
    let first : eqb (get_or homes place 0) place ≡ same_bit (first_bit links b) b =
    ap (λ l. eqb (get_or l place 0) place) t.homes_are ∙ ap (λ h. eqb h place) (home-at widths home b ib)
    ∙ place-test widths (first_bit links b) b (first-inside widths links inside b ib) ib in
    and-same (eqb (get_or homes place 0) place) (same_bit (first_bit links b) b) (get_or driven place false) (is_driven flat over b) first
    (λ own.
    let here : place ≡ home b = ap (λ x. place_of widths x) (sym (same-name (first_bit links b) b own)) in
    t.driven_are place (place-below widths b ib)
    ∙ ap (λ l. has_gift l place) t.gifts_are
    ∙ ap (λ p. has_gift (gifts_of flat over) p) here
    ∙ any-given flat ok over b ib)

-- ---- lows

place-up : (widths : List ℕ) (n k : ℕ) → place_of widths (bit n 0) + k ≡ place_of widths (bit n k)
unfolding place_of
place-up widths n k = omega arith

low-is : (flat : Flat) → IsFlat flat → (over : List ℕ) (homes : List ℕ) (driven : List Bool) (gifts : List Gift) → AreNetTables flat over homes driven gifts → (b : WireBit) → IsBitOf (widths_of flat.wires) b
    → low_in (net_test homes driven) (place_of (widths_of flat.wires) (bit b.wire 0)) b.at ≡ low_of (place_of (widths_of flat.wires)) flat over b
unfolding low_of
low-is flat ok over homes driven gifts t b ib =
    let widths = widths_of flat.wires in
    let start = place_of widths (bit b.wire 0) in
    let net = net_test homes driven in
    let at : (j : ℕ) → j ≤ b.at → net (start + j) ≡ is_net_bit flat over (bit b.wire j) =
    λ j le. ap net (place-up widths b.wire j) ∙ net-is flat ok over homes driven gifts t (bit b.wire j) (record { wire = ib.wire; place = omega (arith, le, ib.place) }) in
    let low : lowest (λ j. net (start + j)) b.at ≡ lowest (λ j. is_net_bit flat over (bit b.wire j)) b.at =
    lowest-same (λ j. net (start + j)) (λ j. is_net_bit flat over (bit b.wire j)) b.at (λ j lt. at j (omega (arith, lt))) in
    ap (λ u. cond u (Some (start + lowest (λ j. net (start + j)) b.at)) None) (at b.at (omega arith))
    ∙ ap (λ k. cond (is_net_bit flat over b) (Some k) None) (ap (λ k. start + k) low ∙ place-up widths b.wire (lowest (λ j. is_net_bit flat over (bit b.wire j)) b.at))

pub lows-are : (flat : Flat) → IsFlat flat → (over : List ℕ) (homes : List ℕ) (driven : List Bool) (gifts : List Gift) → AreNetTables flat over homes driven gifts
    → lows_in (net_test homes driven) (widths_of flat.wires) ≡ map (low_of (place_of (widths_of flat.wires)) flat over) (all_bits (widths_of flat.wires))
lows-are flat ok over homes driven gifts t =
    let widths = widths_of flat.wires in
    map-same (IsBitOf widths) (λ b. low_in (net_test homes driven) (place_of widths (bit b.wire 0)) b.at) (low_of (place_of widths) flat over)
    (low-is flat ok over homes driven gifts t) (all_bits widths) (all_bits-lie widths)

-- ---- nets

pub run-inside : (flat : Flat) (over : List ℕ) (b : WireBit) → IsBitOf (widths_of flat.wires) b → IsBitOf (widths_of flat.wires) (run_of flat over b)
run-inside flat over b ib =
    let le = lowest-le (λ j. is_net_bit flat over (bit b.wire j)) b.at in
    record { wire = ib.wire; place = omega (arith, le, ib.place) }

begin-is : (flat : Flat) (over : List ℕ) (lows : List (Option ℕ)) → lows ≡ map (low_of (place_of (widths_of flat.wires)) flat over) (all_bits (widths_of flat.wires)) → (b : WireBit) → IsBitOf (widths_of flat.wires) b
    → begins lows (place_of (widths_of flat.wires) b) ≡ (is_net_bit flat over b && same_bit (run_of flat over b) b)
unfolding low_of
begin-is flat over lows e b ib =
    let widths = widths_of flat.wires in
    let place = place_of widths in
    ap (λ l. is_at (get_or l (place b) None) (place b)) e
    ∙ ap (λ o. is_at o (place b)) (mapped-at widths (low_of place flat over) b None ib)
    ∙ pick (is_net_bit flat over b)
  where
    pick : (t : Bool) → is_at (cond t (Some (place_of (widths_of flat.wires) (run_of flat over b))) None) (place_of (widths_of flat.wires) b) ≡ (t && same_bit (run_of flat over b) b)
    pick true = place-test (widths_of flat.wires) (run_of flat over b) b (run-inside flat over b ib) ib
    pick false = refl

-- the i-th bit of the row has the place i
place-at_from : (n : ℕ) (front rest widths : List ℕ) → widths ≡ front ++ rest → n ≡ length front → (i : ℕ) (d : WireBit) → i < length (bits_from n rest) → place_of widths (get_or (bits_from n rest) i d) ≡ sum front + i
unfolding bits_from place_of
place-at_from n front [] widths e m i d h = absurd (omega (arith, h))
place-at_from n front (w ∷ rest) widths e m i d h =
    let seg : Seg = record { wire = n; lo = 0; width = w } in
    let long = length-seg_bits seg in
    let before : take n widths ≡ front = ap (λ l. take n l) e ∙ take_at front (w ∷ rest) n (sym m) in
    elim (cases_lt i w) [
      | inl lt ↦
          ap (λ b. place_of widths b) (get_or_append_left (seg_bits seg) (bits_from (n + 1) rest) d i (omega (arith, long, lt)) ∙ get_or-seg_bits seg i d lt)
          ∙ ap (λ l. sum l + (0 + i)) before
          ∙ ap (λ k. sum front + k) (zero-add i)
      | inr past ↦
          let next = place-at_from (n + 1) (front ++ w ∷ []) rest widths (e ∙ sym (append_assoc front (w ∷ []) rest)) (omega (arith, m, length-append front (w ∷ []))) (i - w) d
          (omega (arith, h, past, length-append (seg_bits seg) (bits_from (n + 1) rest), long)) in
          ap (λ b. place_of widths b) (get_or-append_right (seg_bits seg) (bits_from (n + 1) rest) w i d long past)
          ∙ next
          ∙ (let total = sum_by-append (λ (k : ℕ). k) front (w ∷ []) in let one = sum_by-cons (λ (k : ℕ). k) w [] in let q : sum (front ++ w ∷ []) + (i - w) ≡ sum front + i = omega (arith, total, one, past) in q)
    ]

place-at : (widths : List ℕ) (i : ℕ) (d : WireBit) → i < length (all_bits widths) → place_of widths (get_or (all_bits widths) i d) ≡ i
unfolding all_bits
place-at widths i d h = place-at_from 0 [] widths widths refl refl i d h ∙ zero-add i

-- the places of all bits, in their order
places-in_row : (widths : List ℕ) → map (place_of widths) (all_bits widths) ≡ range_with_len 0 (length (all_bits widths))
places-in_row widths =
    let place = place_of widths in
    let n = length (all_bits widths) in
    let none = bit 0 0 in
    ext_get_or 0 (map place (all_bits widths)) (range_with_len 0 n) (length-map (all_bits widths) place ∙ sym (length-range_with_len 0 n))
    (λ i lt.
    let below : i < n = omega (arith, lt, length-map (all_bits widths) place) in
    get_or-map place (all_bits widths) i none 0 below
    ∙ place-at widths i none below
    ∙ sym (get_or-range_with_len 0 n i 0 below ∙ zero-add i))

pub nets-are : (flat : Flat) (over : List ℕ) (lows : List (Option ℕ)) → lows ≡ map (low_of (place_of (widths_of flat.wires)) flat over) (all_bits (widths_of flat.wires))
    → filter (begins lows) (range_with_len 0 (length lows)) ≡ map (place_of (widths_of flat.wires)) (nets_of flat over)
nets-are flat over lows e =
    let widths = widths_of flat.wires in
    let place = place_of widths in
    let long : length lows ≡ length (all_bits widths) = ap (λ l. length l) e ∙ length-map (all_bits widths) (low_of place flat over) in
    ap (λ n. filter (begins lows) (range_with_len 0 n)) long
    ∙ ap (λ l. filter (begins lows) l) (sym (places-in_row widths))
    ∙ filter-map place (begins lows) (all_bits widths)
    ∙ ap (λ l. map place l) (filter-same (IsBitOf widths) (λ b. begins lows (place b)) (λ b. is_net_bit flat over b && same_bit (run_of flat over b) b) (begin-is flat over lows e) (all_bits widths) (all_bits-lie widths))
