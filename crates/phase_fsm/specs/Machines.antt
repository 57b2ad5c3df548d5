-- The machine of one phase of a flat design: a node for each wire, for each set of wires that are overridden.
use Rattle.std.specs.Prelude.{◌≡◌, ◌<◌, ℕ, List, [], length, map, slice_index, slice_index_or}
use Rattle.settling.specs.Settling.{Store, value_at as value_in}
use Rattle.svex_shape.specs.declared.shape.Shape.{Shape}
use Rattle.svex_shape.specs.Shapes.{width_at}
use Rattle.svex_shape.specs.Values.{value_at}
use Rattle.driver_resolve.specs.Drivers.{reading, wire_bits, widths_of}
use Rattle.flat_net.specs.declared.flat.Flat.{Flat}
use Rattle.flat_net.specs.Flats.{IsLeastSettling}
use Rattle.net_equations.specs.Equations.{phase_of}
use Rattle.compose_rounds.specs.States.{IsOuter}

-- The node has what the wire has in the least settling, over each previous valuation and whatever comes from outside, where the wires of
-- a set are overridden; and it mentions these two alone.
pub record IsWireNode (flat : Flat) (over : List ℕ) (shapes : List Shape) (wire width node : ℕ) : Type 0 where
  pub outer : IsOuter (widths_of flat.wires) shapes node
  pub wide : width_at shapes node ≡ width
  pub values : (stim previous now present : Store) → IsLeastSettling flat over stim previous now
      → value_at (reading (phase_of stim previous present)) shapes node ≡ map (value_in now) (wire_bits wire width)

-- a node for each wire
pub record AreWireNodes (flat : Flat) (over : List ℕ) (shapes : List Shape) (nodes : List ℕ) : Type 0 where
  pub as_many : length nodes ≡ length flat.wires
  pub each : (n : ℕ) → n < length flat.wires → IsWireNode flat over shapes n (slice_index (widths_of flat.wires) n) (slice_index nodes n)

abbrev pub row_of : List (List ℕ) → ℕ → List ℕ
row_of rows s = slice_index_or rows s []

-- and for each set
pub record IsMachine (flat : Flat) (sets : List (List ℕ)) (shapes : List Shape) (nodes : List (List ℕ)) : Type 0 where
  pub as_many : length nodes ≡ length sets
  pub each : (s : ℕ) → s < length sets → AreWireNodes flat (row_of sets s) shapes (row_of nodes s)
