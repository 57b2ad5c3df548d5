-- What is made of equations: a node for each of them, and for each wire.
use Rattle.std.specs.Prelude.{◌≡◌, ◌<◌, ℕ, List, length, map, IsTrue, slice_index}
use Rattle.fourvec.specs.declared.Bit.TheVariants.{Unknown}
use Rattle.lhs_alias.specs.declared.segs.WireBit.{WireBit}
use Rattle.lhs_alias.specs.Segs.{seg_bits}
use Rattle.lhs_alias.specs.Lies.{IsBitOf}
use Rattle.lhs_alias.specs.Joined.{Kept, Stands, first_of}
use Rattle.settling.specs.Settling.{Store, Link, value_at as value_in}
use Rattle.svex_shape.specs.declared.shape.Shape.{Shape}
use Rattle.svex_shape.specs.Shapes.{width_at}
use Rattle.svex_shape.specs.Values.{value_at}
use Rattle.driver_resolve.specs.declared.driver.NetEq.{NetEq}
use Rattle.driver_resolve.specs.declared.driver.Resolved.{Resolved}
use Rattle.driver_resolve.specs.Drivers.{reading, wire_bits}
use Rattle.net_equations.specs.Equations.{phase_of, IsLeastSolution, IsResolved, has_bit, seg_at}
use Rattle.compose_rounds.specs.States.{IsOuter, AreOuter}

-- no equation tells the bit
abbrev pub IsUntold : Kept → List NetEq → WireBit → Type 0
IsUntold kept eqs b = (i : ℕ) → i < length eqs → IsTrue (has_bit (seg_at (map (λ e. e.seg) eqs) i) (first_of kept b)) → ⊥

-- The nodes of equations have, over each stimulus and previous valuation, the values of the least solution, and there is one. A bit
-- that no equation tells is X there.
pub record IsComposed (kept : Kept) (old new : List Shape) (eqs : List NetEq) (nodes : List ℕ) : Type 0 where
  pub size : length nodes ≡ length eqs
  pub outer : AreOuter kept.widths new nodes
  pub widths : (i : ℕ) → i < length eqs → width_at new (slice_index nodes i) ≡ (seg_at (map (λ e. e.seg) eqs) i).width
  pub exists : (links : List Link) → Stands kept links → (stim previous : Store) → (now : Store) × IsLeastSolution links old eqs stim previous now
  pub values : (links : List Link) → Stands kept links → (stim previous now present : Store) → IsLeastSolution links old eqs stim previous now
      → (i : ℕ) → i < length eqs → value_at (reading (phase_of stim previous present)) new (slice_index nodes i) ≡ map (value_in now) (seg_bits (seg_at (map (λ e. e.seg) eqs) i))
  pub free : (links : List Link) → Stands kept links → (stim previous now : Store) → IsLeastSolution links old eqs stim previous now
      → (b : WireBit) → IsBitOf kept.widths b → IsUntold kept eqs b → value_in now b ≡ Unknown

-- A node over stimuli and previous values alone, as wide as a wire, which has the wire's value in the least solution.
pub record IsWireNode (kept : Kept) (old new : List Shape) (eqs : List NetEq) (wire node : ℕ) : Type 0 where
  pub outer : IsOuter kept.widths new node
  pub wide : width_at new node ≡ slice_index kept.widths wire
  pub value : (links : List Link) → Stands kept links → (stim previous now present : Store) → IsLeastSolution links old eqs stim previous now
      → value_at (reading (phase_of stim previous present)) new node ≡ map (value_in now) (wire_bits wire (slice_index kept.widths wire))

-- such a node for each wire
pub record AreWireNodes (kept : Kept) (old new : List Shape) (eqs : List NetEq) (nodes : List ℕ) : Type 0 where
  pub size : length nodes ≡ length kept.widths
  pub at : (n : ℕ) → n < length nodes → IsWireNode kept old new eqs n (slice_index nodes n)

-- nodes were made of the equations over an arena that has grown since
pub record WasComposed (kept : Kept) (shapes : List Shape) (set : Resolved) (nodes : List ℕ) : Type 0 where
  pub before : List Shape
  pub resolved : IsResolved kept before set
  pub composed : IsComposed kept before shapes set.eqs nodes
