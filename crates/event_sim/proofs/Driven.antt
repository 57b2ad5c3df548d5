-- Each class of a net is given something.
use Rattle.std.proofs.Common.{◌≡◌, ℕ, ◌<◌, Bool, true, false, cond, ◌&&◌, List, length, get_or, map, refl, sym, ap, ◌∙◌, eqb, zero-add}
use Rattle.std.specs.Prelude.{Option, None, Some}
use Rattle.std.specs.List.{range_with_len}
use Rattle.std.proofs.lemmas.Bool.{eqb-true, eq-eqb}
use Rattle.std.proofs.lemmas.List.FromFn.{get_or-map-range_with_len}
use Rattle.std.proofs.lemmas.Map.Views.{any-filter_same}
use Rattle.lhs_alias.specs.declared.segs.WireBit.{WireBit}
use Rattle.lhs_alias.specs.Lies.{IsBitOf}
use Rattle.lhs_alias.specs.Joined.{all_bits, place_of}
use Rattle.lhs_alias.proofs.Row.{place-below}
use Rattle.settling.specs.Settling.{first_bit}
use Rattle.settling.proofs.Classes.{joined-first, first-joined}
use Rattle.driver_resolve.specs.Drivers.{widths_of}
use Rattle.flat_net.specs.declared.flat.Flat.{Flat}
use Rattle.flat_net.specs.Flats.{IsFlat, links_of}
use Rattle.event_nets.specs.declared.gift.Gift.{Gift}
use Rattle.event_nets.specs.Gifts.{has_gift}
use Rattle.event_nets.specs.Needs.{given_to}
use Rattle.event_nets.specs.Nets.{is_net_bit, run_of, low_of}
use Rattle.event_nets.specs.Runs.{is_at}
use Rattle.event_nets.specs.Tables.{home_of, homes_of, gifts_of, lows_of}
use Rattle.event_nets.proofs.Homes.{links-inside, first-inside, home-at, mapped-at}
use Rattle.event_nets.proofs.FlatNets.{AreNetTables, net-is}
use Rattle.event_sim.specs.Sims.{net_in}

-- a first bit has a gift exactly where it lies in a net
net-given : (flat : Flat) → IsFlat flat → (over : List ℕ) (f : WireBit) → IsBitOf (widths_of flat.wires) f → first_bit (links_of flat.joins) f ≡ f
    → has_gift (gifts_of flat over) (place_of (widths_of flat.wires) f) ≡ is_net_bit flat over f
net-given flat ok over f i own =
    let widths = widths_of flat.wires in
    let home = home_of (links_of flat.joins) widths in
    let n = length (all_bits widths) in
    let gifts = gifts_of flat over in
    let driven : List Bool = map (has_gift gifts) (range_with_len 0 n) in
    let at : (k : ℕ) → k < n → get_or driven k false ≡ has_gift gifts k = λ k lt. get_or-map-range_with_len (has_gift gifts) 0 n k k false lt (zero-add k) in
    let tables : AreNetTables flat over (homes_of flat) driven gifts = record { homes_are = refl; gifts_are = refl; driven_are = at } in
    let place = place_of widths f in
    let here : eqb (get_or (homes_of flat) place 0) place ≡ true = eq-eqb (get_or (homes_of flat) place 0) place (home-at widths home f i ∙ ap (λ x. place_of widths x) own) in
    sym (at place (place-below widths f i)) ∙ ap (λ t. t && get_or driven place false) (sym here) ∙ net-is flat ok over (homes_of flat) driven gifts tables f i

-- the net in which the class of a bit lies, by its first bit
pub net-by_first : (flat : Flat) → IsFlat flat → (over : List ℕ) (lows : List (Option ℕ)) → lows ≡ lows_of flat over → (b : WireBit) → IsBitOf (widths_of flat.wires) b
    → net_in (links_of flat.joins) (widths_of flat.wires) lows b ≡ low_of (place_of (widths_of flat.wires)) flat over (first_bit (links_of flat.joins) b)
net-by_first flat ok over lows e b ib =
    let widths = widths_of flat.wires in
    let links = links_of flat.joins in
    let place = place_of widths in
    let first = first_bit links b in
    ap (λ l. get_or l (place first) None) e
    ∙ mapped-at widths (low_of place flat over) first None (first-inside widths links (links-inside widths flat.joins ok.joins) b ib)

-- the first bit of a class whose net has a place lies in a net
pub first-there : (flat : Flat) → IsFlat flat → (over : List ℕ) (lows : List (Option ℕ)) → lows ≡ lows_of flat over → (b : WireBit) → IsBitOf (widths_of flat.wires) b → (low : ℕ)
    → is_at (net_in (links_of flat.joins) (widths_of flat.wires) lows b) low ≡ true → is_net_bit flat over (first_bit (links_of flat.joins) b) ≡ true
unfolding low_of
first-there flat ok over lows e b ib low on =
    pick (is_net_bit flat over (first_bit (links_of flat.joins) b)) refl (ap (λ o. is_at o low) (sym (net-by_first flat ok over lows e b ib)) ∙ on)
  where
    pick : (t : Bool) → is_net_bit flat over (first_bit (links_of flat.joins) b) ≡ t
        → is_at (cond t (Some (place_of (widths_of flat.wires) (run_of flat over (first_bit (links_of flat.joins) b)))) None) low ≡ true
        → is_net_bit flat over (first_bit (links_of flat.joins) b) ≡ true
    pick true is h = is
    pick false is h = cc

-- each class of a net has a gift of the net
pub net-has : (flat : Flat) → IsFlat flat → (over : List ℕ) (lows : List (Option ℕ)) → lows ≡ lows_of flat over → (gifts : List Gift) → gifts ≡ gifts_of flat over
    → (b : WireBit) → IsBitOf (widths_of flat.wires) b → (low : ℕ) → is_at (net_in (links_of flat.joins) (widths_of flat.wires) lows b) low ≡ true
    → has_gift (given_to lows gifts low) (home_of (links_of flat.joins) (widths_of flat.wires) b) ≡ true
net-has flat ok over lows e gifts f b ib low on =
    let widths = widths_of flat.wires in
    let links = links_of flat.joins in
    let first = first_bit links b in
    let home = home_of links widths b in
    let own : first_bit links first ≡ first = sym (first-joined links b first (joined-first links b)) in
    any-filter_same (λ (g : Gift). eqb g.to home) (λ (g : Gift). is_at (get_or lows g.to None) low) true
    (λ g same. ap (λ (p : ℕ). is_at (get_or lows p None) low) (eqb-true g.to home same) ∙ on) gifts
    ∙ ap (λ l. has_gift l home) f
    ∙ net-given flat ok over first (first-inside widths links (links-inside widths flat.joins ok.joins) b ib) own
    ∙ first-there flat ok over lows e b ib low on
