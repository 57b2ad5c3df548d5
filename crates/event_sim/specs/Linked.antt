-- Where nets lie, and what takes what. A net is named by the place of its lowest bit.
use Rattle.std.specs.Prelude.{◌≡◌, ℕ, ◌+◌, ◌<◌, List, [], length, Option, None, Some, All, IfSome, slice_index_or}
use Rattle.std.specs.List.{Contains}
use Rattle.lhs_alias.specs.Joined.{all_bits}
use Rattle.svex_shape.specs.declared.shape.VarName.{VarName}
use Rattle.svex_shape.specs.declared.shape.VarName.TheVariants.{Now, Prev, Stim, Chosen, Sampled}
use Rattle.svex_shape.specs.declared.shape.Shape.{Shape}
use Rattle.svex_shape.specs.declared.shape.Shape.TheVariants.{Const, Var, Unary, Binary, Cond, Pick, Slice, Zext, Sext, DynSlice, DynPut}
use Rattle.svex_shape.specs.Shapes.{shape_at}
use Rattle.driver_resolve.specs.Drivers.{widths_of}
use Rattle.flat_net.specs.declared.flat.Flat.{Flat}
use Rattle.event_nets.specs.declared.gift.Gift.{Gift}
use Rattle.event_nets.specs.declared.tables.Tables.{Tables}
use Rattle.event_nets.specs.Needs.{node_of, gift_rows}
use Rattle.event_sim.specs.declared.links.Links.{Links}
use Rattle.node_memo.specs.Memos.{rows_in}
use Rattle.event_sim.specs.Rows.{low_at}

-- ---- where nets lie

-- each wire that has a bit of a net is among the wires of the net
abbrev pub LieThere : List ℕ → List ℕ → List ℕ → List (Option ℕ) → List (List ℕ) → Type 0
LieThere widths starts homes lows wires =
    (n k low : ℕ) → n < length widths → k < slice_index_or widths n 0
    → low_at homes lows (slice_index_or starts n 0 + k) ≡ Some low → Contains (slice_index_or wires low []) n

-- ---- what takes what

-- the wire that a name means in the present
abbrev pub present_named : VarName → Option ℕ
present_named (Now n) = Some n
present_named (Prev n) = None
present_named (Stim n) = None
present_named (Chosen n) = None
present_named (Sampled n) = None

-- the wire whose present a node has
abbrev pub present_of : Shape → Option ℕ
present_of (Var name width) = present_named name
present_of (Const v) = None
present_of (Unary op a) = None
present_of (Binary op a b) = None
present_of (Cond c a b) = None
present_of (Pick c a b) = None
present_of (Slice a lo width) = None
present_of (Zext a width) = None
present_of (Sext a width) = None
present_of (DynSlice a at spot) = None
present_of (DynPut a at spot put) = None

-- each of the first so many nodes that has the present of a wire is among the nodes of the wire; past the wires there are none
abbrev pub ArePresent : List Shape → ℕ → List (List ℕ) → Type 0
ArePresent shapes n present =
    (k wire : ℕ) → k < n → present_of (shape_at shapes k) ≡ Some wire → wire < length present → Contains (slice_index_or present wire []) k

-- the net is one of those to which the value that is given, if it is a node's, is given
abbrev pub IsTakenBy : List (List ℕ) → ℕ → Gift → Type 0
IsTakenBy takers low g = IfSome (node_of g.from) (λ k. Contains (slice_index_or takers k []) low)

-- the same of all that is given to these nets
abbrev pub AreTaken : List ℕ → List (List Gift) → List (List ℕ) → Type 0
AreTaken nets given takers = (low : ℕ) → Contains nets low → All (IsTakenBy takers low) (slice_index_or given low [])

-- What is kept of where nets lie and of what takes what.
pub record AreLinks (flat : Flat) (tables : Tables) (links : Links) : Type 0 where
  pub wires_each : length links.wires.items ≡ length (all_bits (widths_of flat.wires))
  pub wires_inside : (low n : ℕ) → Contains (slice_index_or (rows_in links.wires.items) low []) n → n < length (widths_of flat.wires)
  pub wires : LieThere (widths_of flat.wires) tables.starts.items tables.homes.items tables.lows.items (rows_in links.wires.items)
  pub present_each : length links.present.items ≡ length (widths_of flat.wires)
  pub present_inside : (wire k : ℕ) → Contains (slice_index_or (rows_in links.present.items) wire []) k → k < length flat.arena
  pub present : ArePresent flat.arena (length flat.arena) (rows_in links.present.items)
  pub takers_each : length links.takers.items ≡ length flat.arena
  pub takers_inside : (k low : ℕ) → Contains (slice_index_or (rows_in links.takers.items) k []) low → low < length (all_bits (widths_of flat.wires))
  pub takers : AreTaken tables.nets.items (gift_rows tables.given.items) (rows_in links.takers.items)
