-- What the digits of a literal stand for (IEEE 1800-2017 5.7.1). A vector is the list of its bits, the least significant first.
use Rattle.std.specs.Prelude.{ℕ, ◌^◌, Bool, ◌==◌, ◌&&◌, ◌||◌, not, nat_le, List, [], ◌∷◌, ◌++◌, take, drop, replicate, filter, slice_index, if◌then◌else◌}
use Rattle.std.specs.Char.{digit_value}
use Rattle.std.specs.Str.Parse.{digits_value}
use Rattle.fourvec.specs.declared.Bit.{Bit}
use Rattle.fourvec.specs.declared.Bit.TheVariants.{Zero, One, Unknown, Floating}
use Rattle.fourvec.specs.Bits.{vector, all_zero}
use Rattle.sv_outside.specs.Literals.{is_unknown, is_decimal_base, is_binary_base, is_octal_base}

-- ---- digits

-- the digits: a `_` is passed over
abbrev pub digits_in : List ℕ → List ℕ
digits_in t = filter (λ b. not (b == 95)) t

-- the whole number that decimal digits stand for
unfoldable pub decimal : List ℕ → ℕ
decimal t = digits_value 10 (digits_in t)

-- `x` in either case
abbrev pub is_x : ℕ → Bool
is_x b = (b == 120) || (b == 88)

-- `z` in either case, or `?`, which is another way to write it
abbrev pub is_z : ℕ → Bool
is_z b = (b == 122) || (b == 90) || (b == 63)

-- the bit that fills a vector at the left of its leftmost digit: X where that is x, Z where it is z or `?`, else 0
abbrev pub fill_bit : ℕ → Bit
fill_bit b = if is_x b then Unknown else (if is_z b then Floating else Zero)

-- the bit that a fill repeats
abbrev pub fill_digit : ℕ → Bit
fill_digit b = if b == 49 then One else fill_bit b

-- the bits of a digit of the bases `b`, `o` and `h`: X or Z at each place, or those of its number
unfoldable pub digit_bits : ℕ → ℕ → List Bit
digit_bits each b = if is_unknown b then replicate each (fill_bit b) else vector each (digit_value b)

-- how many bits a digit of the bases `b`, `o` and `h` has
abbrev pub digit_width : ℕ → ℕ
digit_width base = if is_binary_base base then 1 else (if is_octal_base base then 3 else 4)

-- the bits of digits, of which the first is the most significant
unfoldable pub bits_of : ℕ → List ℕ → List Bit
bits_of each [] = []
bits_of each (b ∷ bs) = bits_of each bs ++ digit_bits each b

-- the bits that the digits of the bases `b`, `o` and `h` give
unfoldable pub given_bits : ℕ → List ℕ → List Bit
given_bits each digits = bits_of each (digits_in digits)

-- the vector of a width: bits that exceed it are cut at the left, and a shorter one is filled there
unfoldable pub fitted : ℕ → Bit → List Bit → List Bit
fitted width fill bits = take width (bits ++ replicate width fill)

-- ---- a base and its digits

abbrev pub base_of : List ℕ → ℕ
base_of value = slice_index value 0

-- the leftmost digit: no `_` stands there
abbrev pub leftmost : List ℕ → ℕ
leftmost value = slice_index value 1

-- the bits of a value of the base `b`, `o` or `h`, as many as its digits give
abbrev pub places_of : List ℕ → List Bit
places_of value = given_bits (digit_width (base_of value)) (drop 1 value)

-- the vector of a width: all X or all Z where the one digit of a decimal is unknown
unfoldable pub vector_of : ℕ → List ℕ → List Bit
vector_of width value =
    if is_decimal_base (base_of value)
    then (if is_unknown (leftmost value) then replicate width (fill_bit (leftmost value)) else vector width (decimal (drop 1 value)))
    else fitted width (fill_bit (leftmost value)) (places_of value)

-- The digits give a bit past position 31 that is not 0. One unknown decimal digit gives none: it fills the vector.
unfoldable pub exceeds_word : List ℕ → Bool
exceeds_word value =
    if is_decimal_base (base_of value)
    then not (is_unknown (leftmost value)) && nat_le (2 ^ 32) (decimal (drop 1 value))
    else not (all_zero (drop 32 (places_of value)))
