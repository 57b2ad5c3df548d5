-- Segments of equations and free ones, and where the bits of wires come from: places in these segments.
use Rattle.std.specs.Prelude.{◌≡◌, ◌+◌, ◌<◌, ◌≤◌, ◌++◌, ℕ, suc, List, [], length, map, nat_lt, IsTrue, slice_index, slice_index_or, if◌then◌else◌}
use Rattle.fourvec.specs.declared.Bit.{Bit}
use Rattle.fourvec.specs.declared.Bit.TheVariants.{Unknown}
use Rattle.lhs_alias.specs.declared.segs.Seg.{Seg}
use Rattle.lhs_alias.specs.declared.segs.WireBit.{WireBit}
use Rattle.svex_shape.specs.declared.shape.Shape.{Shape}
use Rattle.svex_shape.specs.Values.{Vector, Reading, value_at}
use Rattle.net_equations.specs.Equations.{has_bit, seg_at}

-- the segments of equations, and the free ones, which are numbered behind them
pub record Covering : Type 0 where
  pub eqs : List Seg
  pub free : List Seg

abbrev pub all_segs : Covering → List Seg
all_segs c = c.eqs ++ c.free

-- a segment has the bit
abbrev pub HasSource : List Seg → WireBit → Type 0
HasSource segs b = (i : ℕ) × ((i < length segs) × IsTrue (has_bit (seg_at segs i) b))

-- a place in a segment, which has the bit there: the "wire" of the place is the segment's number
pub record IsSource (segs : List Seg) (c b : WireBit) : Type 0 where
  pub within : b.wire < length segs
  pub has : IsTrue (has_bit (seg_at segs b.wire) c)
  pub place : (seg_at segs b.wire).lo + b.at ≡ c.at

-- the value of a segment by its node; those behind the nodes have none
unfoldable pub source_value : Reading → List Shape → List ℕ → ℕ → Vector
source_value r shapes nodes i = if nat_lt i (length nodes) then value_at r shapes (slice_index nodes i) else []

-- the bit at a place in a segment's value; X where there is none
unfoldable pub source_bit : Reading → List Shape → List ℕ → WireBit → Bit
source_bit r shapes nodes b = slice_index_or (source_value r shapes nodes b.wire) b.at Unknown

-- the bits at such places
abbrev pub source_bits : Reading → List Shape → List ℕ → List WireBit → Vector
source_bits r shapes nodes bits = map (source_bit r shapes nodes) bits

-- ---- segments of one wire, chained: a wire has one more than the number of its newest segment, and a segment one more than that of
-- the next older one of its wire; 0 ends the chain. The first n segments are in their chains.
pub record IsLinked (segs : List Seg) (newest older : List ℕ) (n : ℕ) : Type 0 where
  pub size : length older ≡ n
  pub newest_within : (w : ℕ) → slice_index newest w ≤ n
  pub newest_above : (j : ℕ) → j < n → j < slice_index newest (seg_at segs j).wire
  pub newest_own : (w k : ℕ) → slice_index newest w ≡ suc k → (seg_at segs k).wire ≡ w
  pub older_within : (k : ℕ) → k < n → slice_index older k ≤ k
  pub older_above : (j k : ℕ) → j < k → k < n → (seg_at segs j).wire ≡ (seg_at segs k).wire → j < slice_index older k
  pub older_own : (j k : ℕ) → k < n → slice_index older k ≡ suc j → (seg_at segs j).wire ≡ (seg_at segs k).wire

-- a list got longer by zeros
pub record ReadsAs (old new : List ℕ) : Type 0 where
  pub same : (w : ℕ) → slice_index new w ≡ slice_index old w
