-- A pass over one net is the event of that net.
use Rattle.std.proofs.Common.{◌≡◌, ℕ, suc, ◌<◌, Bool, true, false, cond, ◌&&◌, List, [], ◌∷◌, ◌++◌, length, get_or, map, refl, sym, ap, ◌∙◌, subst, inl, inr, arith}
use Rattle.std.specs.Prelude.{All, Option, None, Some}
use Rattle.std.proofs.lemmas.Bool.{cases_lt}
use Rattle.std.proofs.lemmas.List.{get_or-map, length-map}
use Rattle.std.proofs.lemmas.List.Elements.{All-head, All-tail, All-nil, All-append, All-weaker, All-filter}
use Rattle.std.proofs.lemmas.List.Folds.{list_any_none}
use Rattle.sv_outside.specs.declared.text.Signal.{Signal}
use Rattle.lhs_alias.specs.declared.segs.WireBit.{WireBit}
use Rattle.lhs_alias.specs.Segs.{bit, lhs_bits}
use Rattle.lhs_alias.specs.Lies.{IsBitOf}
use Rattle.lhs_alias.specs.Joined.{all_bits, place_of}
use Rattle.lhs_alias.proofs.Lying.{lhs_bits-lie}
use Rattle.lhs_alias.proofs.Row.{all_bits-lie}
use Rattle.lhs_alias.proofs.Chains.{linked-sym}
use Rattle.settling.specs.Settling.{first_bit, same_bit, is_one_class}
use Rattle.settling.specs.Least.{Giving}
use Rattle.settling.specs.Events.{event, step}
use Rattle.settling.proofs.Classes.{joined-first, joined-exactly, same-name}
use Rattle.svex_shape.specs.Values.{Vector}
use Rattle.driver_resolve.specs.declared.driver.Driver.{Driver}
use Rattle.driver_resolve.specs.Drivers.{wire_bits, widths_of, IsDriver}
use Rattle.flat_net.specs.declared.flat.Flat.{Flat}
use Rattle.flat_net.specs.Flats.{IsFlat, links_of}
use Rattle.event_nets.specs.Nets.{target_bits, input_bits, overridden_bits, is_driven, is_net_bit, run_of, nets_of, net_bits, low_of}
use Rattle.event_nets.specs.Runs.{is_at}
use Rattle.event_nets.specs.Tables.{store_of, IsValuation}
use Rattle.event_sim.specs.declared.sim.Sim.{Sim}
use Rattle.event_sim.specs.Sims.{picked, Fits}
use Rattle.event_nets.proofs.Homes.{links-inside, first-inside, linked-inside, place-test, mapped-at}
use Rattle.event_nets.proofs.Giving.{AreWires, wires-rest, wire-lies, wires-are}
use Rattle.event_nets.proofs.Cutting.{as_inputs, bits-as_inputs, wires-as_inputs}
use Rattle.event_sim.proofs.Passing.{store-outside}
use Rattle.event_nets.proofs.FlatNets.{run-inside}

-- ---- only bits of the wires are driven

targets-inside : (flat : Flat) (widths : List ℕ) (drivers : List Driver) → All (IsDriver widths flat.arena) drivers → All (IsBitOf widths) (target_bits drivers)
unfolding target_bits
targets-inside flat widths [] h = All-nil (IsBitOf widths)
targets-inside flat widths (d ∷ more) h =
    All-append (IsBitOf widths) (lhs_bits d.target) (target_bits more) (lhs_bits-lie widths d.target (All-head (IsDriver widths flat.arena) d more h).lies)
    (targets-inside flat widths more (All-tail (IsDriver widths flat.arena) d more h))

chosen-bits : (widths : List ℕ) (n w : ℕ) (t : Bool) → All (IsBitOf widths) (wire_bits n w) → All (IsBitOf widths) (cond t (wire_bits n w) [])
chosen-bits widths n w true h = h
chosen-bits widths n w false h = All-nil (IsBitOf widths)

inputs-inside : (widths : List ℕ) (n : ℕ) (wires : List Signal) → AreWires widths n wires → All (IsBitOf widths) (input_bits n wires)
unfolding input_bits
inputs-inside widths n [] h = All-nil (IsBitOf widths)
inputs-inside widths n (s ∷ more) h =
    All-append (IsBitOf widths) (cond s.input (wire_bits n s.width) []) (input_bits (suc n) more) (chosen-bits widths n s.width s.input (wire-lies widths n s more h))
    (inputs-inside widths (suc n) more (wires-rest widths n s more h))

pub outside-undriven : (flat : Flat) → IsFlat flat → (over : List ℕ) (b : WireBit) → (IsBitOf (widths_of flat.wires) b → ⊥) → is_driven flat over b ≡ false
outside-undriven flat ok over b out =
    let widths = widths_of flat.wires in
    let links = links_of flat.joins in
    let inside = links-inside widths flat.joins ok.joins in
    let own = target_bits flat.drivers ++ input_bits 0 flat.wires in
    let set = overridden_bits 0 flat.wires over in
    let all = All-append (IsBitOf widths) own set
    (All-append (IsBitOf widths) (target_bits flat.drivers) (input_bits 0 flat.wires) (targets-inside flat widths flat.drivers ok.drivers) (inputs-inside widths 0 flat.wires (wires-are flat.wires)))
    (subst (λ l. All (IsBitOf widths) l) (sym (bits-as_inputs 0 flat.wires over)) (inputs-inside widths 0 (as_inputs 0 flat.wires over) (wires-as_inputs flat.wires over))) in
    list_any_none (λ c. is_one_class links c b) (own ++ set)
    (All-weaker (IsBitOf widths) (λ c. is_one_class links c b ≡ false)
    (λ c ic. apart (is_one_class links c b) refl (λ e. out (linked-inside widths links inside c b ((joined-exactly links c b).1 (same-name _ _ e)) ic)))
    (own ++ set) all)
  where
    apart : (t : Bool) {u : Bool} → u ≡ t → (u ≡ true → ⊥) → u ≡ false
    apart true e h = absurd (h e)
    apart false e h = e

no-net-outside : (flat : Flat) → IsFlat flat → (over : List ℕ) (net b : WireBit) → (IsBitOf (widths_of flat.wires) b → ⊥) → net_bits flat over net b ≡ false
unfolding is_net_bit
no-net-outside flat ok over net b out =
    let widths = widths_of flat.wires in
    let links = links_of flat.joins in
    let inside = links-inside widths flat.joins ok.joins in
    let first = first_bit links b in
    let far : IsBitOf widths first → ⊥ = λ i. out (linked-inside widths links inside first b (linked-sym links (joined-first links b)) i) in
    ap (λ t. (same_bit (first_bit links first) first && t) && same_bit (run_of flat over first) net) (outside-undriven flat ok over first far) ∙ none (same_bit (first_bit links first) first) (same_bit (run_of flat over first) net)
  where
    none : (t u : Bool) → ((t && false) && u) ≡ false
    none true u = refl
    none false u = refl

-- ---- the bits that a pass over one net takes

pub net-taken : (flat : Flat) → IsFlat flat → (over : List ℕ) (lows : List (Option ℕ)) → lows ≡ map (low_of (place_of (widths_of flat.wires)) flat over) (all_bits (widths_of flat.wires))
    → (net : WireBit) → IsBitOf (widths_of flat.wires) net → (b : WireBit) → IsBitOf (widths_of flat.wires) b
    → picked (links_of flat.joins) (widths_of flat.wires) lows (place_of (widths_of flat.wires) net) b ≡ net_bits flat over net b
unfolding low_of
net-taken flat ok over lows e net inet b ib =
    let widths = widths_of flat.wires in
    let links = links_of flat.joins in
    let inside = links-inside widths flat.joins ok.joins in
    let place = place_of widths in
    let first = first_bit links b in
    let ifirst = first-inside widths links inside b ib in
    ap (λ l. is_at (get_or l (place first) None) (place net)) e
    ∙ ap (λ o. is_at o (place net)) (mapped-at widths (low_of place flat over) first None ifirst)
    ∙ pick (is_net_bit flat over first) ifirst
  where
    pick : (t : Bool) → IsBitOf (widths_of flat.wires) (first_bit (links_of flat.joins) b)
        → is_at (cond t (Some (place_of (widths_of flat.wires) (run_of flat over (first_bit (links_of flat.joins) b)))) None) (place_of (widths_of flat.wires) net)
        ≡ (t && same_bit (run_of flat over (first_bit (links_of flat.joins) b)) net)
    pick true i = place-test (widths_of flat.wires) (run_of flat over (first_bit (links_of flat.joins) b)) net (run-inside flat over (first_bit (links_of flat.joins) b) i) inet
    pick false i = refl

pub net-inside : (flat : Flat) (over : List ℕ) (k : ℕ) (d : WireBit) → k < length (nets_of flat over) → IsBitOf (widths_of flat.wires) (get_or (nets_of flat over) k d)
net-inside flat over k d h =
    let widths = widths_of flat.wires in
    All-filter (λ b. is_net_bit flat over b && same_bit (run_of flat over b) b) (IsBitOf widths) (all_bits widths) (all_bits-lie widths) k d h

pub net-low : (flat : Flat) (over : List ℕ) (nets : List ℕ) → nets ≡ map (place_of (widths_of flat.wires)) (nets_of flat over) → (k : ℕ) (d : WireBit) → k < length (nets_of flat over)
    → get_or nets k 0 ≡ place_of (widths_of flat.wires) (get_or (nets_of flat over) k d)
net-low flat over nets e k d h = ap (λ l. get_or l k 0) e ∙ get_or-map (place_of (widths_of flat.wires)) (nets_of flat over) k d 0 h

-- a net of the simulation has its number for each list of overridden wires that it fits
pub net-there : (flat : Flat) (over other : List ℕ) (sim : Sim) → Fits flat over sim → Fits flat other sim → (k : ℕ) → k < length (nets_of flat over) → k < length (nets_of flat other)
net-there flat over other sim fits again k lt =
    let place = place_of (widths_of flat.wires) in
    let one = ap (λ l. length l) fits.tables.nets ∙ length-map (nets_of flat over) place in
    let two = ap (λ l. length l) again.tables.nets ∙ length-map (nets_of flat other) place in
    omega (arith, one, two, lt)

pub step-event : (flat : Flat) → IsFlat flat → (over : List ℕ) (old new : List Vector) → IsValuation (widths_of flat.wires) old → IsValuation (widths_of flat.wires) new
    → (lows : List (Option ℕ)) → lows ≡ map (low_of (place_of (widths_of flat.wires)) flat over) (all_bits (widths_of flat.wires))
    → (net : WireBit) → IsBitOf (widths_of flat.wires) net → (low : ℕ) → low ≡ place_of (widths_of flat.wires) net → (gives : Giving)
    → ((n k : ℕ) → store_of new n k ≡ event (links_of flat.joins) gives (picked (links_of flat.joins) (widths_of flat.wires) lows low) (store_of old) n k)
    → (n k : ℕ) → store_of new n k ≡ event (links_of flat.joins) gives (net_bits flat over net) (store_of old) n k
step-event flat ok over old new v u lows e net inet low l gives h n k = elim (cases_lt n (length (widths_of flat.wires))) [
  | inl lt ↦ elim (cases_lt k (get_or (widths_of flat.wires) n 0)) [
    | inl under ↦ inside (record { wire = lt; place = under })
    | inr high ↦ outside (λ i. omega (arith, i.place, high))
  ]
  | inr past ↦ outside (λ i. omega (arith, i.wire, past))
]
  where
    inside : IsBitOf (widths_of flat.wires) (bit n k) → store_of new n k ≡ event (links_of flat.joins) gives (net_bits flat over net) (store_of old) n k
    inside i =
        h n k
        ∙ ap (λ t. cond t (step (links_of flat.joins) gives (store_of old) n k) (store_of old n k))
        (ap (λ p. picked (links_of flat.joins) (widths_of flat.wires) lows p (bit n k)) l ∙ net-taken flat ok over lows e net inet (bit n k) i)

    outside : (IsBitOf (widths_of flat.wires) (bit n k) → ⊥) → store_of new n k ≡ event (links_of flat.joins) gives (net_bits flat over net) (store_of old) n k
    outside out =
        store-outside (widths_of flat.wires) new u n k out
        ∙ sym (store-outside (widths_of flat.wires) old v n k out)
        ∙ ap (λ t. cond t (step (links_of flat.joins) gives (store_of old) n k) (store_of old n k)) (sym (no-net-outside flat ok over net (bit n k) out))
