-- Nodes of wires, made of those of segments.
use Rattle.std.specs.Prelude.{◌≡◌, ◌<◌, ◌≤◌, ◌+◌, ◌++◌, ℕ, Bool, List, length, map, IsTrue, slice_index}
use Rattle.std.specs.List.{AllZip}
use Rattle.lhs_alias.specs.declared.segs.Seg.{Seg}
use Rattle.lhs_alias.specs.declared.segs.WireBit.{WireBit}
use Rattle.lhs_alias.specs.Joined.{Kept, first_of}
use Rattle.settling.specs.Settling.{Store}
use Rattle.svex_shape.specs.declared.shape.Shape.{Shape}
use Rattle.svex_shape.specs.declared.shape.VarName.{VarName}
use Rattle.svex_shape.specs.Shapes.{width_at}
use Rattle.svex_shape.specs.Values.{value_at, each_variable}
use Rattle.driver_resolve.specs.Drivers.{wire_bits}
use Rattle.compose_rounds.specs.Sources.{IsSource, source_bits}
use Rattle.compose_rounds.specs.States.{AreOuter, is_outer, outer_reading}

pub record AreThere (shapes : List Shape) (nodes : List ℕ) : Type 0 where
  pub there : (i : ℕ) → i < length nodes → slice_index nodes i < length shapes

-- where the segment has a node, that has the piece's bits
pub record HasPart (shapes : List Shape) (nodes : List ℕ) (piece : Seg) : Type 0 where
  pub ends : piece.wire < length nodes → piece.lo + piece.width ≤ width_at shapes (slice_index nodes piece.wire)

-- a later node that has the bits at these places, and mentions what the nodes do
pub record IsMade (old new : List Shape) (nodes : List ℕ) (bits : List WireBit) (node : ℕ) : Type 0 where
  pub there : node < length new
  pub wide : width_at new node ≡ length bits
  pub value : (stim previous : Store) → value_at (outer_reading stim previous) new node ≡ source_bits (outer_reading stim previous) old nodes bits
  pub outer : (widths : List ℕ) → AreOuter widths old nodes → IsTrue (each_variable (is_outer widths) new node)

-- the node of a wire
pub record IsNodeOf (kept : Kept) (segs : List Seg) (old new : List Shape) (nodes : List ℕ) (wire width node : ℕ) : Type 0 where
  pub wide : width_at new node ≡ width
  pub bits : List WireBit
  pub sources : AllZip (IsSource segs) (map (first_of kept) (wire_bits wire width)) bits
  pub made : IsMade old new nodes bits node

-- ---- one node above another

pub record IsJoined (old new : List Shape) (high low node : ℕ) : Type 0 where
  pub there : node < length new
  pub wide : width_at new node ≡ width_at old high + width_at old low
  pub value : (stim previous : Store) → value_at (outer_reading stim previous) new node
      ≡ value_at (outer_reading stim previous) old low ++ value_at (outer_reading stim previous) old high
  pub variables : (p : VarName → ℕ → Bool) → IsTrue (each_variable p old high) → IsTrue (each_variable p old low) → IsTrue (each_variable p new node)
