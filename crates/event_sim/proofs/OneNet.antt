-- A pass over one net of a simulation that fits its flat design.
use Rattle.std.proofs.Common.{◌≡◌, ℕ, ◌+◌, ◌<◌, true, List, [], length, get_or, sym, ap, ◌∙◌, refl, subst}
use Rattle.std.specs.Prelude.{All, Option, None}
use Rattle.std.proofs.lemmas.List.Elements.{All-filter}
use Rattle.fourvec.specs.declared.Bit.{Bit}
use Rattle.lhs_alias.specs.Segs.{bit}
use Rattle.lhs_alias.specs.Joined.{all_bits}
use Rattle.settling.specs.Events.{event}
use Rattle.svex_arena.specs.Arenas.{IsArena}
use Rattle.svex_shape.specs.Values.{Vector, read}
use Rattle.node_memo.specs.declared.memo.Memo.{Memo}
use Rattle.node_memo.specs.Memos.{HasFresh}
use Rattle.driver_resolve.specs.Drivers.{widths_of}
use Rattle.flat_net.specs.declared.flat.Flat.{Flat}
use Rattle.flat_net.specs.Flats.{IsFlat, links_of, given_in}
use Rattle.event_nets.specs.declared.gift.Gift.{Gift}
use Rattle.event_nets.specs.Gifts.{IsGift, has_gift}
use Rattle.event_nets.specs.Needs.{gift_rows}
use Rattle.event_nets.specs.Runs.{is_at}
use Rattle.event_nets.specs.Tables.{store_of, home_of}
use Rattle.event_nets.proofs.Needed.{net-roots}
use Rattle.event_sim.specs.declared.sim.Sim.{Sim}
use Rattle.event_sim.specs.Passes.{IsToldOf}
use Rattle.event_sim.specs.Queues.{IsGivenFresh}
use Rattle.event_sim.specs.Rows.{low_at, Passed}
use Rattle.event_sim.specs.Sims.{now_of, prev_of, stim_of, net_in, picked, Fits}
use Rattle.event_sim.proofs.Driven.{net-has}
use Rattle.event_sim.proofs.Fitting.{gifts-fit, lows-fit, home-is, bit-there, pass-now}
use Rattle.event_sim.proofs.Needing.{fresh-alike, gifts-same, ideal-told, ideal-long, ideal-tells, net-told, passed-same}
use Rattle.event_sim.proofs.Valued.{ideal, ideal-has}

-- what is given to the net, by its place
abbrev pub own_gifts : Sim → ℕ → List Gift
own_gifts sim low = get_or (gift_rows sim.tables.given.items) low []

pub net-gifts-fit : (flat : Flat) (over : List ℕ) (sim : Sim) → IsArena flat.arena → IsFlat flat → Fits flat over sim → (low : ℕ) → low < length (all_bits (widths_of flat.wires))
    → (memo : Memo) → HasFresh (read sim.env) flat.arena memo → All (IsGivenFresh memo) (own_gifts sim low)
    → (told : List (Option Bit)) → told ≡ sim.work.told.items → All (IsGift memo.values.items sim.env.stim (length told)) (own_gifts sim low)
net-gifts-fit flat over sim i ok fits low lt memo right fresh told same =
    let r = read sim.env in
    let all = gifts-fit flat over sim i ok fits (ideal r flat.arena) (ideal-has r flat.arena) told same in
    let own = All-filter (λ g. is_at (get_or sim.tables.lows.items g.to None) low) (IsGift (ideal r flat.arena) sim.env.stim (length told)) sim.tables.gifts.items all in
    gifts-same memo.values.items (ideal r flat.arena) sim.env.stim (length told) (own_gifts sim low)
    (fresh-alike r flat.arena memo sim.env.stim right (own_gifts sim low) (net-roots flat over sim.tables ok fits.tables low lt) fresh)
    (subst (λ (l : List Gift). All (IsGift (ideal r flat.arena) sim.env.stim (length told)) l) (sym (fits.tables.given low lt)) own)

pub net-now : (flat : Flat) (over : List ℕ) (sim : Sim) → IsArena flat.arena → IsFlat flat → Fits flat over sim → (low : ℕ) → low < length (all_bits (widths_of flat.wires))
    → (memo : Memo) → HasFresh (read sim.env) flat.arena memo → All (IsGivenFresh memo) (own_gifts sim low)
    → (told : List (Option Bit)) → length told ≡ length sim.work.told.items → IsToldOf (own_gifts sim low) memo.values.items sim.env.stim (own_gifts sim low) told
    → (new : List Vector) → Passed sim.tables.homes.items sim.tables.starts.items sim.tables.lows.items low told sim.env.present new
    → (n k : ℕ) → store_of new n k ≡ event (links_of flat.joins) (given_in flat over (stim_of sim) (prev_of sim)) (picked (links_of flat.joins) (widths_of flat.wires) sim.tables.lows.items low) (now_of sim) n k
net-now flat over sim i ok fits low lt memo right fresh told long tells new p n k =
    let r = read sim.env in
    let gifts = sim.tables.gifts.items in
    let all = ideal r flat.arena in
    let count = length told in
    let widths = widths_of flat.wires in
    let links = links_of flat.joins in
    let starts = sim.tables.starts.items in
    let homes = sim.tables.homes.items in
    let lows = sim.tables.lows.items in
    let own = own_gifts sim low in
    let alike = fresh-alike r flat.arena memo sim.env.stim right own (net-roots flat over sim.tables ok fits.tables low lt) fresh in
    let told2 = ideal-told all sim.env.stim gifts count in
    let same : (m j : ℕ) → m < length sim.env.present → j < length (get_or sim.env.present m []) → is_at (low_at homes lows (get_or starts m 0 + j)) low ≡ true
    → get_or told (get_or homes (get_or starts m 0 + j) 0) None ≡ get_or told2 (get_or homes (get_or starts m 0 + j) 0) None = λ m j ml jl on.
    let ib = bit-there widths sim.env.present fits.present m j ml jl in
    let home = home-is flat over sim fits m j ib in
    let here : is_at (net_in links widths lows (bit m j)) low ≡ true = ap (λ h. is_at (get_or lows h None) low) (sym home) ∙ on in
    let has : has_gift own (home_of links widths (bit m j)) ≡ true = ap (λ l. has_gift l (home_of links widths (bit m j))) (fits.tables.given low lt)
    ∙ net-has flat ok over lows fits.tables.lows gifts fits.tables.gifts (bit m j) ib low here in
    subst (λ h. get_or told h None ≡ get_or told2 h None) (sym home)
    (net-told memo.values.items all sim.env.stim lows gifts own low (fits.tables.given low lt) alike told count refl (lows-fit flat over sim fits told long) tells
    (home_of links widths (bit m j)) here has) in
    pass-now flat over sim i ok fits all (ideal-has r flat.arena) told2 (ideal-long all sim.env.stim gifts count ∙ long) (ideal-tells all sim.env.stim gifts count) low new
    (passed-same homes starts lows low told told2 sim.env.present new same p) n k
