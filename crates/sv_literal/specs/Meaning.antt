-- What a literal stands for, and which literals are refused (IEEE 1800-2017 5.7.1).
-- An integer has 32 bits; the standard asks for at least as many.
use Rattle.std.specs.Prelude.{ℕ, ◌^◌, Bool, true, false, ◌&&◌, ◌||◌, not, nat_le, nat_lt, List, [], ◌∷◌, length, drop, slice_index, if◌then◌else◌}
use Rattle.std.specs.List.{take_while}
use Rattle.fourvec.specs.Bits.{vector}
use Rattle.sv_outside.specs.Words.{is_digit}
use Rattle.sv_outside.specs.Literals.{goes_decimal, is_sign, is_number, is_based, without_size, without_sign}
use Rattle.sv_literal.specs.declared.meaning.Literal.{Literal}
use Rattle.sv_literal.specs.Value.{decimal, fill_digit, vector_of, exceeds_word}

-- ---- the parts of a based literal: a size, `'`, a sign, and a value, which is a base and its digits

-- the digits of the size, if the literal has one
abbrev pub size_of : List ℕ → List ℕ
size_of [] = []
size_of (b ∷ bs) = if is_digit b then b ∷ take_while goes_decimal bs else []

abbrev pub is_nonempty : List ℕ → Bool
is_nonempty t = nat_lt 0 (length t)

abbrev pub is_sized : List ℕ → Bool
is_sized t = is_nonempty (size_of t)

-- what stands behind the `'`
abbrev pub behind_quote : List ℕ → List ℕ
behind_quote t = drop 1 (without_size t)

abbrev pub has_sign : List ℕ → Bool
has_sign t = is_sign (slice_index (behind_quote t) 0)

abbrev pub value_of : List ℕ → List ℕ
value_of t = without_sign (behind_quote t)

-- ---- refusals

-- the width of a vector: 1 to 128 bits (this tool's own bound)
abbrev pub is_width : ℕ → Bool
is_width n = nat_le 1 n && nat_le n 128

-- the size is no width
unfoldable pub is_wide : List ℕ → Bool
is_wide t = is_based t && is_sized t && not (is_width (decimal (size_of t)))

-- a decimal number that a signed integer does not hold
unfoldable pub is_large_number : List ℕ → Bool
is_large_number t = is_number t && nat_le (2 ^ 31) (decimal t)

-- a value without a size that an integer does not hold
unfoldable pub is_large_value : List ℕ → Bool
is_large_value t = is_based t && not (is_sized t) && exceeds_word (value_of t)

-- a literal without a size that needs one (this tool's own rule)
abbrev pub is_out_of_range : List ℕ → Bool
is_out_of_range t = is_large_number t || is_large_value t

-- ---- values

-- a decimal number: a signed integer
unfoldable pub number_of : List ℕ → Literal
number_of t = record { value = vector 32 (decimal t); sized = false; signed = true; fill = false }

-- as many bits as the size says, or those of an integer
abbrev pub width_of : List ℕ → ℕ
width_of t = if is_sized t then decimal (size_of t) else 32

-- a based literal: signed where an `s` stands
unfoldable pub based_of : List ℕ → Literal
based_of t = record { value = vector_of (width_of t) (value_of t); sized = is_sized t; signed = has_sign t; fill = false }

-- `'0 '1 'x 'z`: the bit with which to fill
unfoldable pub fill_of : List ℕ → Literal
fill_of t = record { value = fill_digit (slice_index t 1) ∷ []; sized = false; signed = false; fill = true }

-- the meaning of a literal that is not refused
unfoldable pub meaning_of : List ℕ → Literal
meaning_of t = if is_number t then number_of t else (if is_based t then based_of t else fill_of t)
