-- Nets that wait, from the start, where all do, to the end, where none does.
use Rattle.std.proofs.Common.{◌≡◌, ℕ, ◌<◌, Bool, true, false, cond, List, [], length, get_or, map, refl, sym, ap, ◌∙◌, subst, arith}
use Rattle.std.specs.Prelude.{All, None, Some, Contains}
use Rattle.std.proofs.lemmas.List.{get_or-map, get_or_default, length-map}
use Rattle.std.proofs.lemmas.Option.{cond_some}
use Rattle.std.proofs.lemmas.List.Elements.{All-contains}
use Rattle.lhs_alias.specs.declared.segs.WireBit.{WireBit}
use Rattle.lhs_alias.specs.Segs.{bit}
use Rattle.lhs_alias.specs.Lies.{IsBitOf}
use Rattle.lhs_alias.specs.Joined.{all_bits, place_of}
use Rattle.lhs_alias.proofs.Row.{place-below}
use Rattle.settling.specs.Settling.{value_at, first_bit}
use Rattle.svex_arena.specs.Arenas.{IsArena}
use Rattle.svex_shape.specs.Values.{Rows}
use Rattle.node_memo.specs.declared.memo.Memo.{Memo}
use Rattle.driver_resolve.specs.Drivers.{widths_of}
use Rattle.flat_net.specs.declared.flat.Flat.{Flat}
use Rattle.flat_net.specs.Flats.{IsFlat, links_of, IsLeastSettling}
use Rattle.event_nets.specs.declared.gift.Gift.{Gift}
use Rattle.event_nets.specs.declared.tables.Tables.{Tables}
use Rattle.event_nets.specs.Nets.{is_driven, is_net_bit, run_of, nets_of, low_of}
use Rattle.event_nets.specs.Tables.{store_of, AreTables}
use Rattle.event_nets.proofs.Homes.{links-inside, first-inside}
use Rattle.event_sim.specs.Sims.{net_in}
use Rattle.event_sim.specs.Steps.{IsReached}
use Rattle.event_sim.proofs.Driven.{net-by_first}
use Rattle.node_memo.proofs.Rows.{none-has}
use Rattle.event_sim.proofs.Resting.{run-named, driven-inside, first-in_net, undriven-step, undriven-stays}
use Rattle.event_sim.proofs.Settled.{reached-rest}
use Rattle.event_sim.proofs.Stepping.{net-inside}
use Rattle.event_sim.proofs.Waking.{RestIn, FreshIn, stepped_in}

-- ---- the net of a bit is one of the nets

low-there : (flat : Flat) (over : List ℕ) (f : WireBit) → is_net_bit flat over f ≡ true → low_of (place_of (widths_of flat.wires)) flat over f ≡ Some (place_of (widths_of flat.wires) (run_of flat over f))
unfolding low_of
low-there flat over f e = ap (λ u. cond u (Some (place_of (widths_of flat.wires) (run_of flat over f))) None) e

has-map : (f : WireBit → ℕ) (l : List WireBit) (x : WireBit) → Contains l x → Contains (map f l) (f x)
has-map f l x h = let lt = h.1 in (h.0, omega (arith, lt, length-map l f), get_or-map f l h.0 x (f x) lt ∙ ap f h.2)

pub net-listed : (flat : Flat) → IsFlat flat → (over : List ℕ) (tables : Tables) → AreTables flat over tables → (b : WireBit) (low : ℕ) → IsBitOf (widths_of flat.wires) b
    → net_in (links_of flat.joins) (widths_of flat.wires) tables.lows.items b ≡ Some low → Contains tables.nets.items low
unfolding low_of
net-listed flat ok over tables t b low ib is =
    let widths = widths_of flat.wires in
    let links = links_of flat.joins in
    let first = first_bit links b in
    let place = place_of widths in
    let ifirst = first-inside widths links (links-inside widths flat.joins ok.joins) b ib in
    let named = cond_some (is_net_bit flat over first) (place (run_of flat over first)) low (sym (net-by_first flat ok over tables.lows.items t.lows b ib) ∙ is) in
    subst (λ (l : List ℕ). Contains l low) (sym t.nets)
    (subst (λ (k : ℕ). Contains (map place (nets_of flat over)) k) named.1 (has-map place (nets_of flat over) (run_of flat over first) (run-named flat over first ifirst named.0)))

pub net-below : (flat : Flat) (over : List ℕ) (tables : Tables) → AreTables flat over tables → (low : ℕ) → Contains tables.nets.items low → low < length (all_bits (widths_of flat.wires))
net-below flat over tables t low h =
    let place = place_of (widths_of flat.wires) in
    let nets = nets_of flat over in
    let c : Contains (map place nets) low = subst (λ (l : List ℕ). Contains l low) t.nets h in
    let lt = c.1 in
    let within : c.0 < length nets = omega (arith, lt, length-map nets place) in
    let is : place (get_or nets c.0 (bit 0 0)) ≡ low = sym (get_or-map place nets c.0 (bit 0 0) low within) ∙ c.2 in
    subst (λ (k : ℕ). k < length (all_bits (widths_of flat.wires))) is (place-below (widths_of flat.wires) (get_or nets c.0 (bit 0 0)) (net-inside flat over c.0 (bit 0 0) within))

pub nets-below : (flat : Flat) (over : List ℕ) (tables : Tables) → AreTables flat over tables → (n : ℕ) → n ≡ length (all_bits (widths_of flat.wires)) → All (λ low. low < n) tables.nets.items
nets-below flat over tables t n e k d lt =
    subst (λ (m : ℕ). get_or tables.nets.items k d < m) (sym e) (net-below flat over tables t (get_or tables.nets.items k d) (k, lt, get_or_default tables.nets.items k _ d lt))

-- ---- the start

-- where all nets wait, nothing is said of any
pub all-wait : (flat : Flat) → IsFlat flat → (over : List ℕ) (tables : Tables) → AreTables flat over tables → (waiting : List ℕ) → All (Contains waiting) tables.nets.items
    → (rows : Rows) → RestIn flat over tables.lows.items waiting rows
all-wait flat ok over tables t waiting all rows b low ib is out =
    absurd (out (All-contains (Contains waiting) tables.nets.items low all (net-listed flat ok over tables t b low ib is)))

pub none-fresh : (nets : List ℕ) (given : List (List Gift)) (waiting : List ℕ) (memo : Memo) → All (Contains waiting) nets → FreshIn nets given waiting memo
none-fresh nets given waiting memo all low h out = absurd (out (All-contains (Contains waiting) nets low all h))

-- ---- the end

-- where no net waits, the valuation is the least settling
pub none-waits : (flat : Flat) → IsArena flat.arena → IsFlat flat → (over : List ℕ) (tables : Tables) → AreTables flat over tables
    → (rows : Rows) → IsReached flat over (store_of rows.stim) (store_of rows.previous) (store_of rows.present)
    → (waiting : List ℕ) → waiting ≡ [] → RestIn flat over tables.lows.items waiting rows
    → IsLeastSettling flat over (store_of rows.stim) (store_of rows.previous) (store_of rows.present)
none-waits flat i ok over tables t rows r waiting none rest =
    reached-rest flat i ok over (store_of rows.stim) (store_of rows.previous) (store_of rows.present) r (λ n k. at (bit n k) (is_driven flat over (bit n k)) refl)
  where
    in_net : (b : WireBit) → is_driven flat over b ≡ true → IsBitOf (widths_of flat.wires) b
        → (low : ℕ) × (net_in (links_of flat.joins) (widths_of flat.wires) tables.lows.items b ≡ Some low)
    in_net b e ib =
        let first = first_bit (links_of flat.joins) b in
        let place = place_of (widths_of flat.wires) in (
          place (run_of flat over first),
          net-by_first flat ok over tables.lows.items t.lows b ib ∙ low-there flat over first (first-in_net flat over b e),
        )

    at : (b : WireBit) (d : Bool) → is_driven flat over b ≡ d → stepped_in flat over rows b ≡ value_at (store_of rows.present) b
    at b true e =
        let ib = driven-inside flat ok over b e in
        let net = in_net b e ib in
        rest b net.0 ib net.1 (λ c. none-has net.0 (subst (λ (l : List ℕ). Contains l net.0) none c))
    at b false e =
        undriven-step flat over (store_of rows.stim) (store_of rows.previous) (store_of rows.present) b e
        ∙ sym (ap (λ s. value_at s b) r.is ∙ undriven-stays flat over (store_of rows.stim) (store_of rows.previous) b e r.nets)
