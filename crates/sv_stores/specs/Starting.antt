-- What sets a block off (IEEE 1800-2017, 9.4.2).
use Rattle.std.specs.Prelude.{◌≡◌, ℕ, ◌<◌, Bool, List, length, IsTrue}
use Rattle.std.specs.List.{Contains}
use Rattle.fourvec.specs.declared.Bit.{Bit}
use Rattle.fourvec.specs.Bits.{first}
use Rattle.svex_shape.specs.declared.shape.VarName.{VarName}
use Rattle.svex_shape.specs.declared.shape.VarName.TheVariants.{Now, Prev}
use Rattle.svex_shape.specs.declared.shape.Shape.{Shape}
use Rattle.svex_shape.specs.Shapes.{width_at}
use Rattle.svex_shape.specs.Values.{each_variable}
use Rattle.settling.specs.Settling.{Store}
use Rattle.sv_meaning.specs.declared.events.WireEdge.{WireEdge}
use Rattle.sv_meaning.specs.Blocks.{edge_bit, trigger}
use Rattle.sv_lower.specs.Nodes.{bits_at_node}

-- the previous and the present valuation, where variables have such bits
abbrev pub before : (VarName → ℕ → Bit) → Store
before bits n k = bits (Prev n) k

abbrev pub present : (VarName → ℕ → Bit) → Store
present bits n k = bits (Now n) k

-- a test of both values of the wire of an edge
abbrev pub EdgeHolds : (VarName → ℕ → Bool) → WireEdge → Type 0
EdgeHolds p x = IsTrue (p (Now x.wire) 1) × IsTrue (p (Prev x.wire) 1)

-- whether an edge stands between the phases
pub record TellsEdge (shapes : List Shape) (x : WireEdge) (node : ℕ) : Type 0 where
  pub within : node < length shapes
  pub width : width_at shapes node ≡ 1
  pub value : (bits : VarName → ℕ → Bit) → first (bits_at_node bits shapes node) ≡ edge_bit x (before bits) (present bits)
  pub mentions : (p : VarName → ℕ → Bool) → EdgeHolds p x → IsTrue (each_variable p shapes node)

-- whether one of these edges does
pub record Triggers (shapes : List Shape) (edges : List WireEdge) (node : ℕ) : Type 0 where
  pub within : node < length shapes
  pub width : width_at shapes node ≡ 1
  pub value : (bits : VarName → ℕ → Bit) → first (bits_at_node bits shapes node) ≡ trigger edges (before bits) (present bits)
  pub mentions : (p : VarName → ℕ → Bool) → ((x : WireEdge) → Contains edges x → EdgeHolds p x) → IsTrue (each_variable p shapes node)
