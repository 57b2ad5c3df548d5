-- Segments of wires, and the bits that a list of them names.
use Rattle.std.specs.Prelude.{◌≡◌, ℕ, ◌+◌, ◌≤◌, List, [], ◌∷◌, ◌++◌, length, map, All}
use Rattle.std.specs.List.{range_with_len, AllAdjacentBelow}
use Rattle.lhs_alias.specs.declared.segs.Seg.{Seg}
use Rattle.lhs_alias.specs.declared.segs.WireBit.{WireBit}

-- the bit of a wire at a place, counted from the least significant one
abbrev pub bit : ℕ → ℕ → WireBit
bit wire at = record { wire = wire; at = at }

-- the bits of a segment, the least significant first (IEEE 1800-2017, 11.5.1: a part-select)
unfoldable pub seg_bits : Seg → List WireBit
seg_bits seg = map (bit seg.wire) (range_with_len seg.lo seg.width)

-- the bits of a concatenation, the least significant first: its segments stand with the
-- most significant first (IEEE 1800-2017, 11.4.12)
abbrev pub lhs_bits : List Seg → List WireBit
lhs_bits [] = []
lhs_bits (seg ∷ lower) = lhs_bits lower ++ seg_bits seg

-- a segment has a bit at least, and ends at place 128 at most
pub record IsSeg (seg : Seg) : Type 0 where
  pub some : 1 ≤ seg.width
  pub ends : seg.lo + seg.width ≤ 128

abbrev pub AreSegs : List Seg → Type 0
AreSegs segs = All IsSeg segs

-- the lower segment ends where the higher one begins
pub record Adjoin (high low : Seg) : Type 0 where
  pub wire : high.wire ≡ low.wire
  pub place : low.lo + low.width ≡ high.lo

-- no two neighbours can be united
abbrev pub IsUnited : List Seg → Type 0
IsUnited segs = AllAdjacentBelow (λ high low. ¬ Adjoin high low) segs (length segs)
