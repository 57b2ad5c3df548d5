-- A part of a vector at a place that another vector gives, as in `a[at]` and `a[at +: w]`. Sections are those of IEEE 1800-2017.
use Rattle.std.specs.Prelude.{ℕ, zero, suc, ◌&&◌, true, List, [], ◌∷◌, Bool, if◌then◌else◌, ℤ, pos, negsuc, neg_ℤ, ◌+ℤ◌, ◌*ℤ◌, slice_index_or}
use Rattle.fourvec.specs.declared.Bit.{Bit}
use Rattle.fourvec.specs.declared.Bit.TheVariants.{Unknown}
use Rattle.fourvec.specs.declared.Spot.{Spot}
use Rattle.fourvec.specs.Bits.{number, signed, is_known, all_x, each, same_bit}

-- the number of a known index, signed as the spot says
abbrev pub index_of : Spot → List Bit → ℤ
index_of spot at = if spot.signed then signed at else pos (number at)

-- the same, negated where the spot says so
abbrev pub turned_index : Spot → List Bit → ℤ
turned_index spot at = if spot.negate then neg_ℤ (index_of spot at) else index_of spot at

-- the lowest place of the part
unfoldable pub place_of : Spot → List Bit → ℤ
place_of spot at = turned_index spot at *ℤ pos spot.each +ℤ spot.add

-- the whole number that is so far from 0, below or above it
abbrev pub reached : Bool → ℕ → ℤ
reached below far = if below then neg_ℤ (pos far) else pos far

-- the bit at a place, X where the vector has none there (11.5.1)
abbrev pub bit_from : List Bit → ℤ → Bit
bit_from a (pos k) = slice_index_or a k Unknown
bit_from a (negsuc k) = Unknown

-- as many bits as a width says, from a place on
unfoldable pub window : List Bit → ℤ → ℕ → List Bit
window a place zero = []
window a place (suc width) = bit_from a place ∷ window a (place +ℤ pos 1) width

-- a part that is read at a computed place (11.5.1): all X where the index has an unknown bit
unfoldable pub dyn_slice_of : List Bit → List Bit → Spot → List Bit
dyn_slice_of a at spot = if is_known at then window a (place_of spot at) spot.width else all_x spot.width

-- the bit at a place, or another where the vector has none there
abbrev pub bit_or_else : List Bit → ℤ → Bit → Bit
bit_or_else put (pos k) a = slice_index_or put k a
bit_or_else put (negsuc k) a = a

-- a vector with the bits of another from a place on (11.5.1): what lies outside changes nothing
unfoldable pub overlaid : List Bit → ℤ → List Bit → List Bit
overlaid [] place put = []
overlaid (a ∷ more) place put = bit_or_else put (neg_ℤ place) a ∷ overlaid more (place +ℤ negsuc 0) put

-- each bit of a vector is this one
unfoldable pub all_are : Bit → List Bit → Bool
all_are x [] = true
all_are x (b ∷ more) = same_bit x b && all_are x more

-- a bit that stays what it is, whichever bit of another vector is put in its place
unfoldable pub kept_bit : List Bit → Bit → Bit
kept_bit put x = if all_are x put then x else Unknown

-- a part that is written at a computed place; at an unknown index a bit stays where it equals each bit of the part, and
-- becomes X elsewhere (this tool's own rule, so that a write is monotone: by 11.5.1 it would change nothing)
unfoldable pub dyn_put_of : List Bit → List Bit → Spot → List Bit → List Bit
dyn_put_of a at spot put =
    if is_known at then overlaid a (place_of spot at) put else each (kept_bit put) a
