-- Parts of a vector at all places where they can begin.
use Rattle.std.specs.Prelude.{ℕ, ◌+◌, ◌-◌, ◌*◌, ◌<◌, Bool, false, not, ◌&&◌, ◌==◌, if◌then◌else◌, ℤ, pos, negsuc, ◌+ℤ◌, unsigned_abs, Option, Some, None, List, ◌++◌, length, map, take, drop, replicate, slice_index_or}
use Rattle.std.specs.List.{range_with_len}
use Rattle.std.specs.Bool.{beq}
use Rattle.fourvec.specs.declared.Bit.{Bit}
use Rattle.fourvec.specs.declared.Bit.TheVariants.{Unknown}
use Rattle.fourvec.specs.declared.Spot.{Spot}
use Rattle.fourvec.specs.Bits.{number, signed, is_negative}
use Rattle.fourvec.specs.Spots.{reached}
use Rattle.pair_words.specs.declared.pairs.Pair.{Pair}
use Rattle.pair_words.specs.Ways.{constant_pair}

-- whether a whole number is this natural one
abbrev pub is_there : ℤ → ℕ → Bool
is_there (pos n) t = n == t
is_there (negsuc n) t = false

-- whether a natural number is the distance, if there is one
abbrev pub is_distance : Option ℕ → ℕ → Bool
is_distance (Some k) p = p == k
is_distance None p = false

-- a whole number is the number of one of so many
abbrev pub IsPlace : ℕ → ℤ → Type 0
IsPlace count (pos n) = n < count
IsPlace count (negsuc n) = ⊥

-- the element at a whole number, or another where the list has none there
abbrev pub picked : {X : Type 0} → List X → ℤ → X → X
picked xs (pos n) d = slice_index_or xs n d
picked xs (negsuc n) d = d

-- whether an index counts downwards, and how far it is from 0
abbrev pub back_of : Spot → List Bit → Bool
back_of spot at = not (beq (spot.signed && is_negative at) spot.negate)

abbrev pub far_of : Spot → List Bit → ℕ
far_of spot at = if spot.signed then unsigned_abs (signed at) else number at

-- where a part begins, counted from the lowest place at which it still overlaps a vector
abbrev pub begin_at : Bool → ℕ → ℕ → Bool → ℕ → ℤ
begin_at back far each back' far' = reached back (far * each) +ℤ reached back' far'

-- a vector between as many pairs X on both sides
abbrev pub padded : ℕ → List Pair → List Pair
padded p a = replicate p (constant_pair Unknown) ++ (a ++ replicate p (constant_pair Unknown))

-- the parts of this width of a padded vector, from the lowest up
abbrev pub parts_of : ℕ → List Pair → List (List Pair)
parts_of width pad = map (λ t. take width (drop t pad)) (range_with_len 0 (length pad - width + 1))

-- n pairs from place p on of a padded vector, with another from place t on
abbrev pub laid : List Pair → List Pair → ℕ → ℕ → ℕ → List Pair
laid pad put p n t = take n (drop p (take t pad ++ (put ++ drop (t + length put) pad)))

-- that with the other at each place at which it still overlaps, from the lowest up
abbrev pub laid_of : List Pair → List Pair → ℕ → ℕ → List (List Pair)
laid_of pad put p n = map (laid pad put p n) (range_with_len 0 (length pad - length put + 1))
