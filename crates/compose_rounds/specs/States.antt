-- Equations and nodes for them, over stimuli and previous values alone.
use Rattle.std.specs.Prelude.{◌≡◌, ◌<◌, ℕ, Bool, false, List, ◌++◌, length, All, IsTrue, slice_index}
use Rattle.lhs_alias.specs.declared.segs.Seg.{Seg}
use Rattle.lhs_alias.specs.declared.segs.WireBit.{WireBit}
use Rattle.lhs_alias.specs.Lies.{LiesIn, IsBitOf}
use Rattle.lhs_alias.specs.Joined.{Kept, Stands, first_of}
use Rattle.settling.specs.Settling.{Store, Link}
use Rattle.settling.specs.Events.{all_unknown}
use Rattle.svex_shape.specs.declared.shape.Shape.{Shape}
use Rattle.svex_shape.specs.declared.shape.VarName.{VarName}
use Rattle.svex_shape.specs.declared.shape.VarName.TheVariants.{Prev, Stim}
use Rattle.svex_shape.specs.Shapes.{width_at}
use Rattle.svex_shape.specs.Values.{Vector, Reading, value_at, each_variable}
use Rattle.driver_resolve.specs.Drivers.{reading, is_wire}
use Rattle.net_equations.specs.Equations.{phase_of, is_of_phase, has_bit, seg_at}
use Rattle.compose_rounds.specs.Rounds.{Gives, IsReached}
use Rattle.compose_rounds.specs.Sources.{HasSource}

-- the previous value of a wire or its stimulus, at its width
abbrev pub is_outer : List ℕ → VarName → ℕ → Bool
is_outer widths (Prev n) w = is_wire widths n w
is_outer widths (Stim n) w = is_wire widths n w
is_outer widths name w = false

-- a node is there, and mentions stimuli and previous values of the wires alone
pub record IsOuter (widths : List ℕ) (shapes : List Shape) (node : ℕ) : Type 0 where
  pub there : node < length shapes
  pub mentions : IsTrue (each_variable (is_outer widths) shapes node)

abbrev pub AreOuter : List ℕ → List Shape → List ℕ → Type 0
AreOuter widths shapes nodes = (i : ℕ) → i < length nodes → IsOuter widths shapes (slice_index nodes i)

-- ---- while rounds go on

-- what nodes show over a stimulus and a previous valuation
abbrev pub outer_reading : Store → Store → Reading
outer_reading stim previous = reading (phase_of stim previous all_unknown)

abbrev pub shown : Store → Store → List Shape → List ℕ → ℕ → Vector
shown stim previous shapes nodes i = value_at (outer_reading stim previous) shapes (slice_index nodes i)

-- what the values of equations give in a valuation
abbrev pub gives_of : Store → Store → List Shape → List ℕ → Gives
gives_of stim previous shapes values s i = value_at (reading (phase_of stim previous s)) shapes (slice_index values i)

-- Equations by their segments and values, and the free segments: all have first bits alone, each once.
pub record IsProblem (kept : Kept) (shapes : List Shape) (segs free : List Seg) (values : List ℕ) : Type 0 where
  pub count : length values ≡ length segs
  pub there : (i : ℕ) → i < length segs → slice_index values i < length shapes
  pub wide : (i : ℕ) → i < length segs → width_at shapes (slice_index values i) ≡ (seg_at segs i).width
  pub mentions : (i : ℕ) → i < length segs → IsTrue (each_variable (is_of_phase kept.widths) shapes (slice_index values i))
  pub lies : All (LiesIn kept.widths) (segs ++ free)
  pub firsts : (i : ℕ) (b : WireBit) → i < length (segs ++ free) → IsTrue (has_bit (seg_at (segs ++ free) i) b) → first_of kept b ≡ b
  pub apart : (i j : ℕ) (b : WireBit) → i < length (segs ++ free) → j < length (segs ++ free)
      → IsTrue (has_bit (seg_at (segs ++ free) i) b) → IsTrue (has_bit (seg_at (segs ++ free) j) b) → i ≡ j
  pub covers : (b : WireBit) → IsBitOf kept.widths b → HasSource (segs ++ free) (first_of kept b)

-- nodes that rounds have reached
pub record IsGrown (kept : Kept) (shapes : List Shape) (segs : List Seg) (values nodes : List ℕ) : Type 0 where
  pub size : length nodes ≡ length segs
  pub outer : AreOuter kept.widths shapes nodes
  pub widths : (i : ℕ) → i < length segs → width_at shapes (slice_index nodes i) ≡ (seg_at segs i).width
  pub reached : (links : List Link) → Stands kept links → (stim previous : Store) → IsReached links segs (gives_of stim previous shapes values) (shown stim previous shapes nodes)
