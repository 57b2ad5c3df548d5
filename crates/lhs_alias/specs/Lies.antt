-- Bits and segments that lie within the wires of some widths.
use Rattle.std.specs.Prelude.{ℕ, ◌+◌, ◌<◌, ◌≤◌, List, length, All, slice_index, slice_index_or, ◌-◌}
use Rattle.lhs_alias.specs.declared.segs.Seg.{Seg}
use Rattle.lhs_alias.specs.declared.segs.WireBit.{WireBit}
use Rattle.lhs_alias.specs.Segs.{IsSeg}

-- the bit is one of the wires'
pub record IsBitOf (widths : List ℕ) (b : WireBit) : Type 0 where
  pub wire : b.wire < length widths
  pub place : b.at < slice_index widths b.wire

-- the segment has a bit at least, and ends within its wire
pub record LiesIn (widths : List ℕ) (seg : Seg) : Type 0 where
  pub whole : IsSeg seg
  pub wire : seg.wire < length widths
  pub ends : seg.lo + seg.width ≤ slice_index widths seg.wire

abbrev pub LieIn : List ℕ → List Seg → Type 0
LieIn widths segs = All (LiesIn widths) segs

-- the segment at the end, which is the lowest, has more bits than that
abbrev pub EndsAbove : ℕ → List Seg → Type 0
EndsAbove used segs = (d : Seg) → 0 < length segs → used < (slice_index_or segs (length segs - 1) d).width
