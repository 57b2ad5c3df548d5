-- Equations of segments: which valuations they settle, and which sets of them stand for all first bits.
use Rattle.std.specs.Prelude.{◌≡◌, ◌&&◌, ◌==◌, ◌+◌, nat_le, nat_lt, ℕ, Bool, false, ◌<◌, List, ◌++◌, length, map, All, IsTrue, slice_index_or}
use Rattle.lhs_alias.specs.declared.segs.Seg.{Seg}
use Rattle.lhs_alias.specs.declared.segs.WireBit.{WireBit}
use Rattle.lhs_alias.specs.Segs.{seg_bits}
use Rattle.lhs_alias.specs.Lies.{LiesIn, IsBitOf}
use Rattle.lhs_alias.specs.Joined.{Kept, first_of}
use Rattle.settling.specs.Settling.{Store, Link, Even, value_at as value_in}
use Rattle.settling.specs.Least.{Under}
use Rattle.svex_shape.specs.declared.shape.Shape.{Shape}
use Rattle.svex_shape.specs.declared.shape.VarName.{VarName}
use Rattle.svex_shape.specs.declared.shape.VarName.TheVariants.{Now, Prev, Stim, Chosen, Sampled}
use Rattle.svex_shape.specs.Shapes.{width_at}
use Rattle.svex_shape.specs.Values.{value_at, each_variable}
use Rattle.driver_resolve.specs.declared.driver.NetEq.{NetEq}
use Rattle.driver_resolve.specs.declared.driver.Resolved.{Resolved}
use Rattle.driver_resolve.specs.Drivers.{Phase, reading, is_wire}

-- ---- what equations say

abbrev pub phase_of : Store → Store → Store → Phase
phase_of stim previous present = record { stim = stim; previous = previous; present = present }

-- the bits of the segment have the value
abbrev pub Holds : List Shape → Phase → NetEq → Type 0
Holds shapes p e = map (value_in p.present) (seg_bits e.seg) ≡ value_at (reading p) shapes e.value

-- Joined bits are equal, and each equation holds.
pub record Solves (links : List Link) (shapes : List Shape) (eqs : List NetEq) (p : Phase) : Type 0 where
  pub even : Even links p.present
  pub hold : All (Holds shapes p) eqs

-- It solves the equations over a stimulus and a previous valuation, and is below all that do. So it is X at each bit of which no equation tells.
pub record IsLeastSolution (links : List Link) (shapes : List Shape) (eqs : List NetEq) (stim previous now : Store) : Type 0 where
  pub solves : Solves links shapes eqs (phase_of stim previous now)
  pub least : (t : Store) → Solves links shapes eqs (phase_of stim previous t) → Under now t

-- ---- sets of equations

abbrev pub has_bit : Seg → WireBit → Bool
has_bit seg b = seg.wire == b.wire && (nat_le seg.lo b.at && nat_lt b.at (seg.lo + seg.width))

abbrev pub seg_at : List Seg → ℕ → Seg
seg_at segs i = slice_index_or segs i (record { wire = 0; lo = 0; width = 0 })

-- the present or previous value of a wire, or its stimulus, at its width
abbrev pub is_of_phase : List ℕ → VarName → ℕ → Bool
is_of_phase widths (Now n) w = is_wire widths n w
is_of_phase widths (Prev n) w = is_wire widths n w
is_of_phase widths (Stim n) w = is_wire widths n w
is_of_phase widths name w = false

-- Its segment lies in the wires; its value is as wide, and mentions the valuations of a phase alone.
pub record IsEq (widths : List ℕ) (shapes : List Shape) (e : NetEq) : Type 0 where
  pub lies : LiesIn widths e.seg
  pub there : e.value < length shapes
  pub wide : width_at shapes e.value ≡ e.seg.width
  pub mentions : IsTrue (each_variable (is_of_phase widths) shapes e.value)

-- the segments of the equations, and then the free ones
abbrev pub segs_of : Resolved → List Seg
segs_of set = map (λ e. e.seg) set.eqs ++ set.free

-- The equations are sound, and their segments and the free ones have together the first bits of the joins, each once.
pub record IsResolved (kept : Kept) (shapes : List Shape) (set : Resolved) : Type 0 where
  pub eqs : All (IsEq kept.widths shapes) set.eqs
  pub free : All (LiesIn kept.widths) set.free
  pub firsts : (i : ℕ) (b : WireBit) → i < length (segs_of set) → IsTrue (has_bit (seg_at (segs_of set) i) b) → first_of kept b ≡ b
  pub apart : (i j : ℕ) (b : WireBit) → i < length (segs_of set) → j < length (segs_of set)
      → IsTrue (has_bit (seg_at (segs_of set) i) b) → IsTrue (has_bit (seg_at (segs_of set) j) b) → i ≡ j
  pub covers : (b : WireBit) → IsBitOf kept.widths b → (i : ℕ) × ((i < length (segs_of set)) × IsTrue (has_bit (seg_at (segs_of set) i) (first_of kept b)))
