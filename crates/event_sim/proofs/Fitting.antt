-- One pass of a simulation that fits its flat design.
use Rattle.std.proofs.Common.{◌≡◌, ℕ, suc, ◌+◌, ◌<◌, ◌≤◌, List, [], ◌∷◌, length, get_or, map, drop, sum, sym, ap, ◌∙◌, subst, arith, drop-cons}
use Rattle.std.specs.Prelude.{All, Option}
use Rattle.std.proofs.lemmas.List.{length-map}
use Rattle.std.proofs.lemmas.List.Sums.{sum_by-take-drop, sum_by-cons}
use Rattle.fourvec.specs.declared.Bit.{Bit}
use Rattle.lhs_alias.specs.Segs.{bit}
use Rattle.lhs_alias.specs.Lies.{IsBitOf}
use Rattle.lhs_alias.specs.Joined.{all_bits, starts_of, place_of}
use Rattle.lhs_alias.proofs.Row.{length-all_bits, length-starts_of}
use Rattle.settling.specs.Events.{event}
use Rattle.svex_arena.specs.Arenas.{IsArena}
use Rattle.svex_shape.specs.Values.{Vector, read}
use Rattle.driver_resolve.specs.Drivers.{widths_of}
use Rattle.flat_net.specs.declared.flat.Flat.{Flat}
use Rattle.flat_net.specs.Flats.{IsFlat, links_of, given, given_in}
use Rattle.event_sim.specs.declared.sim.Sim.{Sim}
use Rattle.event_nets.specs.Gifts.{IsGift, IsTold}
use Rattle.event_sim.proofs.Valued.{HasValues}
use Rattle.event_sim.specs.Queues.{FitsNet}
use Rattle.event_sim.specs.Rows.{Passed}
use Rattle.event_nets.specs.Tables.{store_of, home_of, gifts_of, IsValuation}
use Rattle.event_sim.specs.Sims.{now_of, prev_of, stim_of, picked, Fits}
use Rattle.event_nets.proofs.Homes.{links-inside, homes-below, home-at, start-at}
use Rattle.event_nets.proofs.Giving.{none-outside}
use Rattle.event_sim.proofs.Passing.{as-many, width-at, passed-event}
use Rattle.event_sim.proofs.Flats.{phase_of, class-told, given-inside, all-sound}

pub gifts-fit : (flat : Flat) (over : List ℕ) (sim : Sim) → IsArena flat.arena → IsFlat flat → Fits flat over sim → (values : List Vector) → HasValues (read sim.env) flat.arena values (length flat.arena)
    → (told : List (Option Bit)) → told ≡ sim.work.told.items → All (IsGift values sim.env.stim (length told)) sim.tables.gifts.items
gifts-fit flat over sim i ok fits values h told same =
    let long : length (all_bits (widths_of flat.wires)) ≡ length told = sym (ap (λ l. length l) same ∙ fits.told) in
    subst (λ g. All (IsGift values sim.env.stim (length told)) g) (sym fits.tables.gifts)
    (subst (λ n. All (IsGift values sim.env.stim n) (gifts_of flat over)) long (all-sound flat i ok over sim.env fits.present fits.previous fits.stim values h))

pub sum-start : (widths : List ℕ) (n : ℕ) → n < length widths → get_or (starts_of widths) n 0 + get_or widths n 0 ≤ sum widths
unfolding place_of
sum-start widths n h =
    let e : sum (drop n widths) ≡ sum (get_or widths n 0 ∷ drop (suc n) widths) = ap (λ l. sum l) (drop-cons widths n 0 h) in
    omega (arith, start-at widths n 0 h, sum_by-take-drop (λ y. y) widths n, e, sum_by-cons (λ y. y) (get_or widths n 0) (drop (suc n) widths))

pub homes-fit : (flat : Flat) (over : List ℕ) (sim : Sim) → IsFlat flat → Fits flat over sim → (told : List (Option Bit)) → length told ≡ length sim.work.told.items → All (λ home. home < length told) sim.tables.homes.items
homes-fit flat over sim ok fits told long =
    let widths = widths_of flat.wires in
    let same : length (all_bits widths) ≡ length told = sym (long ∙ fits.told) in
    subst (λ l. All (λ home. home < length told) l) (sym fits.tables.homes)
    (subst (λ n. All (λ home. home < n) (map (home_of (links_of flat.joins) widths) (all_bits widths))) same (homes-below widths (links_of flat.joins) (links-inside widths flat.joins ok.joins)))

pub lows-fit : (flat : Flat) (over : List ℕ) (sim : Sim) → Fits flat over sim → (told : List (Option Bit)) → length told ≡ length sim.work.told.items → length sim.tables.lows.items ≡ length told
lows-fit flat over sim fits told long = ap (λ l. length l) fits.tables.lows ∙ length-map (all_bits (widths_of flat.wires)) _ ∙ sym (long ∙ fits.told)

-- what is kept of a net fits the simulation
pub net-fits : (flat : Flat) → IsFlat flat → (over : List ℕ) (sim : Sim) → Fits flat over sim → (low : ℕ) → low < length (all_bits (widths_of flat.wires))
    → (told : List (Option Bit)) → length told ≡ length sim.work.told.items → FitsNet sim.tables sim.links low (map (λ row. length row) sim.env.present) (length told) (length flat.arena) sim.waiting.room
net-fits flat ok over sim fits low lt told long =
    let widths = widths_of flat.wires in
    let homes : length sim.tables.homes.items ≡ sum widths = ap (λ l. length l) fits.tables.homes ∙ length-map (all_bits widths) (home_of (links_of flat.joins) widths) ∙ length-all_bits widths in
    subst (λ (w : List ℕ). FitsNet sim.tables sim.links low w (length told) (length flat.arena) sim.waiting.room) (sym fits.present) (record {
      starts = ap (λ l. length l) fits.tables.starts ∙ length-starts_of widths;
      places = λ n h. omega (arith, ap (λ l. get_or l n 0) fits.tables.starts, sum-start widths n h, homes);
      homes = homes-fit flat over sim ok fits told long;
      lows = lows-fit flat over sim fits told long;
      has_list = omega (arith, fits.links.wires_each, lt);
      inside = fits.links.wires_inside low;
      lie = fits.links.wires;
      present_each = fits.links.present_each;
      present_inside = fits.links.present_inside;
      takers_each = fits.links.takers_each;
      takers_inside = λ k net c. omega (arith, fits.queue, fits.links.takers_inside k net c);
    })

-- the first bit of a class, by the tables
pub home-is : (flat : Flat) (over : List ℕ) (sim : Sim) → Fits flat over sim → (n k : ℕ) → IsBitOf (widths_of flat.wires) (bit n k)
    → get_or sim.tables.homes.items (get_or sim.tables.starts.items n 0 + k) 0 ≡ home_of (links_of flat.joins) (widths_of flat.wires) (bit n k)
home-is flat over sim fits n k i =
    let widths = widths_of flat.wires in
    let home = home_of (links_of flat.joins) widths in
    ap (λ s. get_or sim.tables.homes.items (get_or s n 0 + k) 0) fits.tables.starts
    ∙ ap (λ q. get_or sim.tables.homes.items q 0) (start-at widths n k i.wire)
    ∙ ap (λ l. get_or l (place_of widths (bit n k)) 0) fits.tables.homes
    ∙ home-at widths home (bit n k) i

pub bit-there : (widths : List ℕ) (rows : List Vector) → IsValuation widths rows → (n k : ℕ) → n < length rows → k < length (get_or rows n []) → IsBitOf widths (bit n k)
bit-there widths rows v n k nl kl =
    let wire : n < length widths = omega (arith, nl, as-many widths rows v) in
    record { wire = wire; place = omega (arith, kl, width-at widths rows v n wire) }

pub pass-now : (flat : Flat) (over : List ℕ) (sim : Sim) → IsArena flat.arena → IsFlat flat → Fits flat over sim → (values : List Vector) → HasValues (read sim.env) flat.arena values (length flat.arena)
    → (told : List (Option Bit)) → length told ≡ length sim.work.told.items → IsTold values sim.env.stim sim.tables.gifts.items told
    → (net : ℕ) (new : List Vector) → Passed sim.tables.homes.items sim.tables.starts.items sim.tables.lows.items net told sim.env.present new
    → (n k : ℕ) → store_of new n k ≡ event (links_of flat.joins) (given_in flat over (stim_of sim) (prev_of sim)) (picked (links_of flat.joins) (widths_of flat.wires) sim.tables.lows.items net) (now_of sim) n k
pass-now flat over sim i ok fits values h told long is net new p n k =
    let widths = widths_of flat.wires in
    let links = links_of flat.joins in
    let full : length told ≡ length (all_bits widths) = long ∙ fits.told in
    let told-all = subst (λ g. IsTold values sim.env.stim g told) fits.tables.gifts is in
    passed-event widths sim.tables.homes.items sim.tables.starts.items sim.tables.lows.items net told sim.env.present new links (given_in flat over (stim_of sim) (prev_of sim)) p fits.present fits.tables.starts fits.tables.homes
    (λ b ib. class-told flat i ok over sim.env fits.present fits.previous values h told full told-all b ib)
    (λ b out. none-outside widths links (links-inside widths flat.joins ok.joins) b out (given flat over (phase_of sim.env)) (given-inside flat i ok over sim.env fits.present fits.previous values h))
    n k
