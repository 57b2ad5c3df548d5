-- What is kept of the bits of some wires and of the joins made.
use Rattle.std.specs.Prelude.{◌≡◌, ℕ, ◌+◌, ◌<◌, ◌≤◌, ◌↔◌, Bool, true, false, not, ◌&&◌, IsTrue, List, [], ◌∷◌, ◌++◌, length, take, sum, All, slice_index, slice_index_or, slice_set}
use Rattle.lhs_alias.specs.declared.segs.WireBit.{WireBit}
use Rattle.lhs_alias.specs.Segs.{bit, seg_bits}
use Rattle.lhs_alias.specs.Lies.{IsBitOf}
use Rattle.lhs_alias.specs.Roots.{merged}
use Rattle.lhs_alias.specs.Pairs.{Linked, IsFirst, IsChild, Falls, HaveOwnChildren}

-- The bits of all wires stand in one row, wire by wire. For each there is the place of the first
-- bit of its class, and whether it is joined, which is to be the child of a join.
pub record Kept : Type 0 where
  pub widths : List ℕ
  pub firsts : List ℕ
  pub joined : List Bool

abbrev pub widths_of : Kept → List ℕ
widths_of kept = kept.widths

-- the bits of wires from a number on
unfoldable pub bits_from : ℕ → List ℕ → List WireBit
bits_from wire [] = []
bits_from wire (width ∷ widths) = seg_bits (record { wire = wire; lo = 0; width = width }) ++ bits_from (wire + 1) widths

-- the bits of all wires, in one row
unfoldable pub all_bits : List ℕ → List WireBit
all_bits widths = bits_from 0 widths

-- the place of a bit in that row
unfoldable pub place_of : List ℕ → WireBit → ℕ
place_of widths b = sum (take b.wire widths) + b.at

-- the place of the first bit that is kept for a bit
unfoldable pub first_place : Kept → WireBit → ℕ
first_place kept b = slice_index kept.firsts (place_of kept.widths b)

-- the first bit that is kept for a bit
unfoldable pub first_of : Kept → WireBit → WireBit
first_of kept b = slice_index_or (all_bits kept.widths) (first_place kept b) (bit 0 0)

unfoldable pub is_joined : Kept → WireBit → Bool
is_joined kept b = slice_index_or kept.joined (place_of kept.widths b) false

-- the joins made are these pairs
pub record Stands (kept : Kept) (pairs : List (WireBit × WireBit)) : Type 0 where
  pub child_bits : All (λ pair. IsBitOf kept.widths pair.0) pairs
  pub parent_bits : All (λ pair. IsBitOf kept.widths pair.1) pairs
  pub falls : All Falls pairs
  pub own_children : HaveOwnChildren pairs
  pub classes : (b c : WireBit) → IsBitOf kept.widths b → IsBitOf kept.widths c → (first_place kept b ≡ first_place kept c) ↔ Linked pairs b c
  pub first : (b : WireBit) → IsBitOf kept.widths b → IsFirst pairs b (first_of kept b)
  pub joined : (b : WireBit) → IsBitOf kept.widths b → IsTrue (is_joined kept b) ↔ IsChild pairs b
  pub alone : (b : WireBit) → IsBitOf kept.widths b → ¬ IsChild pairs b → first_place kept b ≡ place_of kept.widths b

-- ---- the row in vectors

-- the places of the lowest bits of wires, where the first has this place
unfoldable pub starts_from : ℕ → List ℕ → List ℕ
starts_from start [] = []
starts_from start (width ∷ widths) = start ∷ starts_from (start + width) widths

-- the place of each wire's lowest bit
unfoldable pub starts_of : List ℕ → List ℕ
starts_of widths = starts_from 0 widths

-- the place of a bit, by the places of the wires' lowest bits
unfoldable pub place_in : List ℕ → WireBit → ℕ
place_in starts b = slice_index starts b.wire + b.at

-- the bit has a place below n
pub record HasPlace (starts : List ℕ) (n : ℕ) (b : WireBit) : Type 0 where
  pub wire : b.wire < length starts
  pub below : place_in starts b < n

-- the vectors are as long as the row, which is that of wires of 128 bits at most
pub record IsLaid (widths starts : List ℕ) (bits : List WireBit) (firsts : List ℕ) (joined : List Bool) : Type 0 where
  pub narrow : All (λ width. width ≤ 128) widths
  pub lowest : starts ≡ starts_of widths
  pub row : bits ≡ all_bits widths
  pub as_many_firsts : length firsts ≡ length bits
  pub as_many_joined : length joined ≡ length bits

-- whether the mark at the bit's place is set
unfoldable pub is_marked : List ℕ → List Bool → WireBit → Bool
is_marked starts joined b = slice_index_or joined (place_in starts b) false

-- marks at the places of bits
unfoldable pub marked : List ℕ → Bool → List Bool → List WireBit → List Bool
marked starts mark joined [] = joined
marked starts mark joined (b ∷ bits) = marked starts mark (slice_set joined (place_in starts b) mark) bits

-- each bit is free when its turn comes
unfoldable pub are_free : List ℕ → List Bool → List WireBit → Bool
are_free starts joined [] = true
are_free starts joined (b ∷ bits) =
    not (is_marked starts joined b) && are_free starts (slice_set joined (place_in starts b) true) bits

-- the class of each child goes over to that of its parent
unfoldable pub all_merged : List ℕ → List ℕ → List (WireBit × WireBit) → List ℕ
all_merged starts firsts [] = firsts
all_merged starts firsts (pair ∷ pairs) = all_merged starts (merged firsts (place_in starts pair.0) (place_in starts pair.1)) pairs

-- the bit at the place that is kept for a bit
unfoldable pub first_bit : List WireBit → List ℕ → List ℕ → WireBit → WireBit
first_bit bits starts firsts b = slice_index_or bits (slice_index firsts (place_in starts b)) (bit 0 0)
