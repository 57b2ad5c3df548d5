-- What the nets of a flat design need.
use Rattle.std.proofs.Common.{ℕ, suc, ◌<◌, Bool, true, false, cond, List, [], ◌∷◌, length, get_or, map, sym, subst, inl, inr, arith}
use Rattle.std.specs.Prelude.{All, Option, None, Some, IfSome}
use Rattle.std.proofs.lemmas.Bool.{cases_lt}
use Rattle.std.proofs.lemmas.List.{get_or-map, get_or_past, length-map}
use Rattle.std.proofs.lemmas.List.Elements.{All-head, All-tail, All-nil, All-cons, All-append, All-filter}
use Rattle.sv_outside.specs.declared.text.Signal.{Signal}
use Rattle.lhs_alias.specs.declared.segs.WireBit.{WireBit}
use Rattle.lhs_alias.specs.Segs.{bit, lhs_bits}
use Rattle.lhs_alias.specs.Lies.{IsBitOf}
use Rattle.lhs_alias.specs.Joined.{all_bits, place_of}
use Rattle.lhs_alias.proofs.Row.{all_bits-lie, place-below}
use Rattle.svex_shape.specs.declared.shape.Shape.{Shape}
use Rattle.driver_resolve.specs.declared.driver.Driver.{Driver}
use Rattle.driver_resolve.specs.Drivers.{wire_bits, widths_of, IsDriver}
use Rattle.flat_net.specs.declared.flat.Flat.{Flat}
use Rattle.flat_net.specs.Flats.{IsFlat, links_of}
use Rattle.event_nets.specs.declared.gift.Gift.{Gift}
use Rattle.event_nets.specs.declared.gift.Source.{Source}
use Rattle.event_nets.specs.declared.gift.Source.TheVariants.{Value, Stimulus}
use Rattle.event_nets.specs.Gifts.{gifts_at, gifts_to, driver_gifts, stimulus_gifts, overriding_gifts}
use Rattle.event_nets.specs.declared.tables.Tables.{Tables}
use Rattle.event_nets.specs.Needs.{IsRoot, node_of, gift_rows}
use Rattle.event_nets.specs.Runs.{is_at}
use Rattle.event_nets.specs.Nets.{is_net_bit, run_of, low_of}
use Rattle.event_nets.specs.Tables.{AreTables, home_of, lows_of, own_gifts, gifts_of}
use Rattle.event_nets.proofs.Cutting.{as_inputs, gifts-as_inputs, All-left}
use Rattle.event_nets.proofs.FlatNets.{run-inside}

-- the lowest bit of a net has a place in the row
pub lows-inside : (flat : Flat) (over : List ℕ) (k : ℕ) → IfSome (get_or (lows_of flat over) k None) (λ low. low < length (all_bits (widths_of flat.wires)))
unfolding low_of
lows-inside flat over k = elim (cases_lt k (length (all_bits (widths_of flat.wires)))) [
  | inl lt ↦ subst (λ (o : Option ℕ). IfSome o (λ low. low < length (all_bits (widths_of flat.wires)))) (sym (get_or-map (low_of (place_of (widths_of flat.wires)) flat over) (all_bits (widths_of flat.wires)) k (bit 0 0) None lt))
      (pick (get_or (all_bits (widths_of flat.wires)) k (bit 0 0)) (all_bits-lie (widths_of flat.wires) k (bit 0 0) lt) (is_net_bit flat over (get_or (all_bits (widths_of flat.wires)) k (bit 0 0))))
  | inr past ↦ subst (λ (o : Option ℕ). IfSome o (λ low. low < length (all_bits (widths_of flat.wires)))) (sym (get_or_past (lows_of flat over) k None (omega (arith, past, length-map (all_bits (widths_of flat.wires)) (low_of (place_of (widths_of flat.wires)) flat over))))) tt
]
  where
    pick : (b : WireBit) → IsBitOf (widths_of flat.wires) b → (t : Bool) → IfSome (cond t (Some (place_of (widths_of flat.wires) (run_of flat over b))) None) (λ low. low < length (all_bits (widths_of flat.wires)))
    pick b i true = place-below (widths_of flat.wires) (run_of flat over b) (run-inside flat over b i)
    pick b i false = tt

-- the nodes whose values are given are there
gifts-root : (n : ℕ) (from : Source) → IfSome (node_of from) (λ k. k < n) → (at : ℕ) (places : List ℕ) → All (IsRoot n) (gifts_at from at places)
unfolding gifts_at
gifts-root n from h at [] = All-nil (IsRoot n)
gifts-root n from h at (to ∷ more) = All-cons (IsRoot n) (record { to = to; from = from; at = at }) (gifts_at from (suc at) more) h (gifts-root n from h (suc at) more)

drivers-root : (widths : List ℕ) (shapes : List Shape) (home : WireBit → ℕ) (drivers : List Driver) → All (IsDriver widths shapes) drivers → All (IsRoot (length shapes)) (driver_gifts home drivers)
unfolding driver_gifts
drivers-root widths shapes home [] h = All-nil (IsRoot (length shapes))
drivers-root widths shapes home (d ∷ more) h =
    All-append (IsRoot (length shapes)) (gifts_to home (Value d.value) 0 (lhs_bits d.target)) (driver_gifts home more)
    (gifts-root (length shapes) (Value d.value) (All-head (IsDriver widths shapes) d more h).there 0 (map home (lhs_bits d.target)))
    (drivers-root widths shapes home more (All-tail (IsDriver widths shapes) d more h))

chosen-root : (n : ℕ) (gifts : List Gift) (t : Bool) → All (IsRoot n) gifts → All (IsRoot n) (cond t gifts [])
chosen-root n gifts true h = h
chosen-root n gifts false h = All-nil (IsRoot n)

stimuli-root : (n : ℕ) (home : WireBit → ℕ) (k : ℕ) (wires : List Signal) → All (IsRoot n) (stimulus_gifts home k wires)
unfolding stimulus_gifts
stimuli-root n home k [] = All-nil (IsRoot n)
stimuli-root n home k (s ∷ more) =
    All-append (IsRoot n) (cond s.input (gifts_to home (Stimulus k) 0 (wire_bits k s.width)) []) (stimulus_gifts home (suc k) more)
    (chosen-root n (gifts_to home (Stimulus k) 0 (wire_bits k s.width)) s.input (gifts-root n (Stimulus k) tt 0 (map home (wire_bits k s.width))))
    (stimuli-root n home (suc k) more)

pub roots-below : (flat : Flat) → IsFlat flat → (over : List ℕ) → All (IsRoot (length flat.arena)) (gifts_of flat over)
roots-below flat ok over =
    let home = home_of (links_of flat.joins) (widths_of flat.wires) in
    let P : Gift → Type 0 = IsRoot (length flat.arena) in
    All-left P (overriding_gifts home 0 flat.wires over) (own_gifts flat)
    (subst (λ (l : List Gift). All P l) (sym (gifts-as_inputs home 0 flat.wires over)) (stimuli-root (length flat.arena) home 0 (as_inputs 0 flat.wires over)))
    (All-append P (driver_gifts home flat.drivers) (stimulus_gifts home 0 flat.wires)
    (drivers-root (widths_of flat.wires) flat.arena home flat.drivers ok.drivers) (stimuli-root (length flat.arena) home 0 flat.wires))

pub net-roots : (flat : Flat) (over : List ℕ) (tables : Tables) → IsFlat flat → AreTables flat over tables → (low : ℕ) → low < length (all_bits (widths_of flat.wires)) → All (IsRoot (length flat.arena)) (get_or (gift_rows tables.given.items) low [])
net-roots flat over tables ok are low lt =
    let P : Gift → Type 0 = IsRoot (length flat.arena) in
    subst (λ (l : List Gift). All P l) (sym (are.given low lt))
    (All-filter (λ g. is_at (get_or tables.lows.items g.to None) low) P tables.gifts.items (subst (λ (l : List Gift). All P l) (sym are.gifts) (roots-below flat ok over)))
