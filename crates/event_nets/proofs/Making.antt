-- All tables of a flat design.
use Rattle.std.proofs.Common.{◌≡◌, ℕ, suc, ◌<◌, ◌≤◌, Bool, true, false, cond, List, [], ◌∷◌, ◌++◌, length, sym, ap, ◌∙◌, subst, arith}
use Rattle.std.specs.Prelude.{All}
use Rattle.std.proofs.lemmas.List.Elements.{All-head, All-tail, All-nil, All-cons, All-append, All-weaker, All-map}
use Rattle.sv_outside.specs.declared.text.Signal.{Signal}
use Rattle.lhs_alias.specs.declared.segs.WireBit.{WireBit}
use Rattle.lhs_alias.specs.Segs.{lhs_bits}
use Rattle.lhs_alias.specs.Lies.{IsBitOf}
use Rattle.lhs_alias.specs.Joined.{all_bits}
use Rattle.lhs_alias.proofs.Lying.{lhs_bits-lie}
use Rattle.lhs_alias.proofs.Row.{place-below}
use Rattle.settling.specs.Settling.{Link, first_bit}
use Rattle.svex_arena.specs.Arenas.{IsArena}
use Rattle.driver_resolve.specs.declared.driver.Driver.{Driver}
use Rattle.driver_resolve.specs.Drivers.{wire_bits, widths_of, IsDriver}
use Rattle.flat_net.specs.declared.flat.Flat.{Flat}
use Rattle.flat_net.specs.Flats.{IsSignal, IsFlat, links_of}
use Rattle.event_nets.specs.declared.gift.Gift.{Gift}
use Rattle.event_nets.specs.declared.gift.Source.{Source}
use Rattle.event_nets.specs.declared.gift.Source.TheVariants.{Value, Stimulus}
use Rattle.event_nets.specs.Gifts.{gifts_at, gifts_to, driver_gifts, stimulus_gifts, overriding_gifts, HasTarget}
use Rattle.event_nets.specs.Tables.{home_of, own_gifts, gifts_of}
use Rattle.event_nets.proofs.Homes.{IsInside, links-inside, first-inside}
use Rattle.event_nets.proofs.Giving.{AreWires, wires-rest, wire-lies, wires-are}
use Rattle.event_nets.proofs.Cutting.{as_inputs, gifts-as_inputs, wires-as_inputs, All-left}

pub wires-narrow : (wires : List Signal) → All IsSignal wires → All (λ width. (1 ≤ width) × (width ≤ 128)) (widths_of wires)
wires-narrow wires h =
    All-map (λ width. (1 ≤ width) × (width ≤ 128)) (λ (s : Signal). s.width) wires
    (All-weaker IsSignal (λ s. (1 ≤ s.width) × (s.width ≤ 128)) (λ s i. (i.some, i.most)) wires h)

pub gifts-made : (links : List Link) (w w' : List ℕ) (d d' : List Driver) (s s' : List Signal) (none one all : List Gift)
    → none ≡ [] → one ≡ none ++ driver_gifts (home_of links w) d → all ≡ one ++ stimulus_gifts (home_of links w) 0 s → w ≡ w' → d ≡ d' → s ≡ s'
    → all ≡ driver_gifts (home_of links w') d' ++ stimulus_gifts (home_of links w') 0 s'
gifts-made links w w' d d' s s' none one all e f g ew ed es =
    g
    ∙ ap (λ l. l ++ stimulus_gifts (home_of links w) 0 s) (f ∙ ap (λ l. l ++ driver_gifts (home_of links w) d) e)
    ∙ ap (λ l. driver_gifts (home_of links w) l ++ stimulus_gifts (home_of links w) 0 s) ed
    ∙ ap (λ l. driver_gifts (home_of links w) d' ++ stimulus_gifts (home_of links w) 0 l) es
    ∙ ap (λ ws. driver_gifts (home_of links ws) d' ++ stimulus_gifts (home_of links ws) 0 s') ew

pub overriding-made : (links : List Link) (w w' : List ℕ) (s s' : List Signal) (over : List ℕ) (none all : List Gift)
    → none ≡ [] → all ≡ none ++ overriding_gifts (home_of links w) 0 s over → w ≡ w' → s ≡ s' → all ≡ overriding_gifts (home_of links w') 0 s' over
overriding-made links w w' s s' over none all e f ew es =
    f
    ∙ ap (λ l. l ++ overriding_gifts (home_of links w) 0 s over) e
    ∙ ap (λ l. overriding_gifts (home_of links w) 0 l over) es
    ∙ ap (λ ws. overriding_gifts (home_of links ws) 0 s' over) ew

-- ---- the places of gifts

abbrev IsBelow : ℕ → Gift → Type 0
IsBelow n g = g.to < n

gifts-below : (widths : List ℕ) (links : List Link) → All (IsInside widths) links → (from : Source) (at : ℕ) (bits : List WireBit) → All (IsBitOf widths) bits
    → All (IsBelow (length (all_bits widths))) (gifts_to (home_of links widths) from at bits)
unfolding gifts_at
gifts-below widths links i from at [] h = All-nil (IsBelow (length (all_bits widths)))
gifts-below widths links i from at (b ∷ bits) h =
    All-cons (IsBelow (length (all_bits widths))) _ (gifts_to (home_of links widths) from (suc at) bits)
    (place-below widths (first_bit links b) (first-inside widths links i b (All-head (IsBitOf widths) b bits h)))
    (gifts-below widths links i from (suc at) bits (All-tail (IsBitOf widths) b bits h))

drivers-below : (flat : Flat) (widths : List ℕ) (links : List Link) → All (IsInside widths) links → (drivers : List Driver) → All (IsDriver widths flat.arena) drivers
    → All (IsBelow (length (all_bits widths))) (driver_gifts (home_of links widths) drivers)
unfolding driver_gifts
drivers-below flat widths links i [] h = All-nil (IsBelow (length (all_bits widths)))
drivers-below flat widths links i (d ∷ more) h =
    All-append (IsBelow (length (all_bits widths))) (gifts_to (home_of links widths) (Value d.value) 0 (lhs_bits d.target)) (driver_gifts (home_of links widths) more)
    (gifts-below widths links i (Value d.value) 0 (lhs_bits d.target) (lhs_bits-lie widths d.target (All-head (IsDriver widths flat.arena) d more h).lies))
    (drivers-below flat widths links i more (All-tail (IsDriver widths flat.arena) d more h))

chosen-below : (widths : List ℕ) (links : List Link) → All (IsInside widths) links → (n w : ℕ) (t : Bool) → All (IsBitOf widths) (wire_bits n w)
    → All (IsBelow (length (all_bits widths))) (cond t (gifts_to (home_of links widths) (Stimulus n) 0 (wire_bits n w)) [])
chosen-below widths links i n w true h = gifts-below widths links i (Stimulus n) 0 (wire_bits n w) h
chosen-below widths links i n w false h = All-nil (IsBelow (length (all_bits widths)))

stimuli-below : (widths : List ℕ) (links : List Link) → All (IsInside widths) links → (n : ℕ) (wires : List Signal) → AreWires widths n wires
    → All (IsBelow (length (all_bits widths))) (stimulus_gifts (home_of links widths) n wires)
unfolding stimulus_gifts
stimuli-below widths links i n [] h = All-nil (IsBelow (length (all_bits widths)))
stimuli-below widths links i n (s ∷ more) h =
    All-append (IsBelow (length (all_bits widths))) (cond s.input (gifts_to (home_of links widths) (Stimulus n) 0 (wire_bits n s.width)) []) (stimulus_gifts (home_of links widths) (suc n) more)
    (chosen-below widths links i n s.width s.input (wire-lies widths n s more h)) (stimuli-below widths links i (suc n) more (wires-rest widths n s more h))

pub own-below : (flat : Flat) → IsFlat flat → All (λ g. g.to < length (all_bits (widths_of flat.wires))) (own_gifts flat)
own-below flat ok =
    let widths = widths_of flat.wires in
    let links = links_of flat.joins in
    let inside = links-inside widths flat.joins ok.joins in
    All-append (IsBelow (length (all_bits widths))) (driver_gifts (home_of links widths) flat.drivers) (stimulus_gifts (home_of links widths) 0 flat.wires)
    (drivers-below flat widths links inside flat.drivers ok.drivers) (stimuli-below widths links inside 0 flat.wires (wires-are flat.wires))

pub overriding-below : (flat : Flat) → IsFlat flat → (over : List ℕ)
    → All (λ g. g.to < length (all_bits (widths_of flat.wires))) (overriding_gifts (home_of (links_of flat.joins) (widths_of flat.wires)) 0 flat.wires over)
overriding-below flat ok over =
    let widths = widths_of flat.wires in
    let links = links_of flat.joins in
    subst (λ l. All (IsBelow (length (all_bits widths))) l) (sym (gifts-as_inputs (home_of links widths) 0 flat.wires over))
    (stimuli-below widths links (links-inside widths flat.joins ok.joins) 0 (as_inputs 0 flat.wires over) (wires-as_inputs flat.wires over))

pub all-below : (flat : Flat) → IsFlat flat → (over : List ℕ) → All (λ g. g.to < length (all_bits (widths_of flat.wires))) (gifts_of flat over)
all-below flat ok over = All-left (IsBelow (length (all_bits (widths_of flat.wires)))) _ (own_gifts flat) (overriding-below flat ok over) (own-below flat ok)

-- ---- targets

pub targets-narrow : (flat : Flat) → IsArena flat.arena → IsFlat flat → All (HasTarget (widths_of flat.wires)) flat.drivers
targets-narrow flat i ok =
    All-weaker (IsDriver (widths_of flat.wires) flat.arena) (HasTarget (widths_of flat.wires))
    (λ d h. record { lies = h.lies; narrow = omega (arith, h.wide, i.most d.value h.there) })
    flat.drivers ok.drivers
