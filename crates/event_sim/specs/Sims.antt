-- What a simulation holds beside its flat design.
use Rattle.std.specs.Prelude.{◌≡◌, ℕ, List, [], All, length, Option, None, Some, slice_index_or}
use Rattle.std.specs.List.{Contains}
use Rattle.lhs_alias.specs.declared.segs.WireBit.{WireBit}
use Rattle.lhs_alias.specs.Lies.{IsBitOf}
use Rattle.lhs_alias.specs.Joined.{all_bits}
use Rattle.settling.specs.Settling.{Store, Link, value_at}
use Rattle.settling.specs.Events.{Net, step}
use Rattle.svex_shape.specs.Values.{Vector, read}
use Rattle.node_memo.specs.Memos.{IsMemo, HasFresh}
use Rattle.driver_resolve.specs.Drivers.{widths_of}
use Rattle.flat_net.specs.declared.flat.Flat.{Flat}
use Rattle.flat_net.specs.Flats.{links_of, given_in}
use Rattle.event_sim.specs.declared.sim.Sim.{Sim}
pub use Rattle.event_nets.specs.Tables.{store_of, IsValuation}
use Rattle.event_nets.specs.Tables.{home_of, AreTables}
use Rattle.event_nets.specs.Runs.{is_at}
use Rattle.event_nets.specs.Needs.{gift_rows}
use Rattle.event_sim.specs.Linked.{AreLinks}
use Rattle.event_sim.specs.Queues.{IsGivenFresh}

-- ---- valuations

-- what the wires have now, what they had before, and what they are driven with from outside, the last two since the start
abbrev pub now_values : Sim → List Vector
now_values sim = sim.env.present

abbrev pub prev_values : Sim → List Vector
prev_values sim = sim.env.previous

abbrev pub stim_values : Sim → List Vector
stim_values sim = sim.env.stim

abbrev pub now_of : Sim → Store
now_of sim = store_of (now_values sim)

abbrev pub prev_of : Sim → Store
prev_of sim = store_of (prev_values sim)

abbrev pub stim_of : Sim → Store
stim_of sim = store_of (stim_values sim)

-- The simulation was made for this flat design and these wires, which are overridden.
pub record Fits (flat : Flat) (over : List ℕ) (sim : Sim) : Type 0 where
  pub present : IsValuation (widths_of flat.wires) sim.env.present
  pub previous : IsValuation (widths_of flat.wires) sim.env.previous
  pub stim : IsValuation (widths_of flat.wires) sim.env.stim
  pub tables : AreTables flat over sim.tables
  pub links : AreLinks flat sim.tables sim.links
  pub memo : IsMemo flat.arena sim.work.memo
  pub right : HasFresh (read sim.env) flat.arena sim.work.memo
  pub told : length sim.work.told.items ≡ length (all_bits (widths_of flat.wires))
  pub queue : sim.waiting.room ≡ length (all_bits (widths_of flat.wires))

-- ---- nets

-- the net in which the class of a bit lies, by the place of the net's lowest bit
abbrev pub net_in : List Link → List ℕ → List (Option ℕ) → WireBit → Option ℕ
net_in links widths lows b = slice_index_or lows (home_of links widths b) None

-- the bits that a pass over a net sets
abbrev pub picked : List Link → List ℕ → List (Option ℕ) → ℕ → Net
picked links widths lows net b = is_at (net_in links widths lows b) net

-- the bit has the resolution of what is given to its class
abbrev pub IsAtRest : Flat → List ℕ → Sim → WireBit → Type 0
IsAtRest flat over sim b = value_at (step (links_of flat.joins) (given_in flat over (stim_of sim) (prev_of sim)) (now_of sim)) b ≡ value_at (now_of sim) b

-- each bit is at rest whose net is none of these
abbrev pub OthersRest : Flat → List ℕ → List ℕ → Sim → Type 0
OthersRest flat over waiting sim =
    (b : WireBit) (low : ℕ) → IsBitOf (widths_of flat.wires) b → net_in (links_of flat.joins) (widths_of flat.wires) sim.tables.lows.items b ≡ Some low
    → (Contains waiting low → ⊥) → IsAtRest flat over sim b

-- each net but these has only fresh nodes
abbrev pub OthersFresh : List ℕ → Sim → Type 0
OthersFresh waiting sim =
    (low : ℕ) → Contains sim.tables.nets.items low → (Contains waiting low → ⊥) → All (IsGivenFresh sim.work.memo) (slice_index_or (gift_rows sim.tables.given.items) low [])

-- each net but these is at rest, and so is what is given to it
abbrev pub AllRestBut : Flat → List ℕ → List ℕ → Sim → Type 0
AllRestBut flat over waiting sim = OthersRest flat over waiting sim × OthersFresh waiting sim

-- A net whose bits may differ from the resolution of what is given to them waits for its turn.
abbrev pub AllElseRests : Flat → List ℕ → Sim → Type 0
AllElseRests flat over sim = AllRestBut flat over sim.waiting.items sim
