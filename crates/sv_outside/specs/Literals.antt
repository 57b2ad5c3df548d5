-- The forms of literals (IEEE 1800-2017 5.7.1): tests on a whole text. Here no blank stands inside a literal.
use Rattle.std.specs.Prelude.{◌==◌, ◌&&◌, ◌||◌, ℕ, Bool, false, List, [], ◌∷◌, if◌then◌else◌}
use Rattle.std.specs.List.{list_all}
use Rattle.sv_outside.specs.Words.{is_within, is_digit, headed}

-- ---- bytes

-- a digit or `_`, behind a first digit (5.7.1, unsigned_number)
abbrev pub goes_decimal : ℕ → Bool
goes_decimal b = is_digit b || (b == 95)

-- `x`, `z` in either case, or `?` (5.7.1, x_digit and z_digit)
abbrev pub is_unknown : ℕ → Bool
is_unknown b = (b == 120) || (b == 88) || (b == 122) || (b == 90) || (b == 63)

-- `s` in either case: the literal is signed (5.7.1, the bases)
abbrev pub is_sign : ℕ → Bool
is_sign b = (b == 115) || (b == 83)

-- `d` in either case (5.7.1, decimal_base)
abbrev pub is_decimal_base : ℕ → Bool
is_decimal_base b = (b == 100) || (b == 68)

-- `b` in either case (5.7.1, binary_base)
abbrev pub is_binary_base : ℕ → Bool
is_binary_base b = (b == 98) || (b == 66)

-- `o` in either case (5.7.1, octal_base)
abbrev pub is_octal_base : ℕ → Bool
is_octal_base b = (b == 111) || (b == 79)

-- `h` in either case (5.7.1, hex_base)
abbrev pub is_hex_base : ℕ → Bool
is_hex_base b = (b == 104) || (b == 72)

-- a digit of the base `b`, `o` or `h`, known or not (5.7.1, binary_digit, octal_digit, hex_digit)
abbrev pub is_base_digit : ℕ → ℕ → Bool
is_base_digit base b = (is_binary_base base && (is_within 48 49 b || is_unknown b))
    || (is_octal_base base && (is_within 48 55 b || is_unknown b))
    || (is_hex_base base && (is_digit b || is_within 97 102 b || is_within 65 70 b || is_unknown b))

-- the first digit behind a base (5.7.1: the first byte is no `_`)
abbrev pub starts_value : ℕ → ℕ → Bool
starts_value base b = is_base_digit base b || (is_decimal_base base && (is_digit b || is_unknown b))

-- What goes on behind that first digit: `_`, and digits of the base. Of a decimal an unknown digit is the only one (5.7.1).
abbrev pub goes_value : ℕ → ℕ → ℕ → Bool
goes_value base first b = (b == 95) || is_base_digit base b || (is_decimal_base base && is_digit first && is_digit b)

-- `0`, `1`, `x`, `z`, the letters in either case (5.7.1, unbased_unsized_literal; `?` is none of them here)
abbrev pub is_fill_digit : ℕ → Bool
is_fill_digit b = (b == 48) || (b == 49) || (b == 120) || (b == 88) || (b == 122) || (b == 90)

-- ---- forms

-- a byte, and a text behind it
abbrev pub behind_mark : ℕ → (List ℕ → Bool) → List ℕ → Bool
behind_mark mark form [] = false
behind_mark mark form (b ∷ bs) = (b == mark) && form bs

-- decimal digits (5.7.1, unsigned_number)
abbrev pub is_number : List ℕ → Bool
is_number = headed is_digit goes_decimal

-- one of `b o d h`, and digits of that base (5.7.1, binary_value, octal_value, decimal_number, hex_value)
abbrev pub is_value : List ℕ → Bool
is_value [] = false
is_value (base ∷ []) = false
is_value (base ∷ first ∷ more) = starts_value base first && list_all (goes_value base first) more

-- the text behind its sign, if it has one
abbrev pub without_sign : List ℕ → List ℕ
without_sign [] = []
without_sign (b ∷ bs) = if is_sign b then bs else b ∷ bs

-- what stands behind the bytes that pass
abbrev pub drop_run : (ℕ → Bool) → List ℕ → List ℕ
drop_run goes [] = []
drop_run goes (b ∷ bs) = if goes b then drop_run goes bs else b ∷ bs

-- the text behind its size, if it has one (5.7.1, size)
abbrev pub without_size : List ℕ → List ℕ
without_size [] = []
without_size (b ∷ bs) = if is_digit b then drop_run goes_decimal bs else b ∷ bs

-- `'`, an optional sign, and a value (5.7.1)
abbrev pub is_unsized : List ℕ → Bool
is_unsized = behind_mark 39 (λ bs. is_value (without_sign bs))

-- an optional size in decimal digits before that (5.7.1)
abbrev pub is_based : List ℕ → Bool
is_based t = is_unsized (without_size t)

-- `'0 '1 'x 'z` (5.7.1, unbased_unsized_literal)
abbrev pub is_fill : List ℕ → Bool
is_fill [] = false
is_fill (b ∷ []) = false
is_fill (b ∷ c ∷ []) = (b == 39) && is_fill_digit c
is_fill (b ∷ c ∷ d ∷ bs) = false

-- a number, a based literal or a fill (5.7.1, integral_number and unbased_unsized_literal)
abbrev pub is_literal : List ℕ → Bool
is_literal t = is_number t || is_based t || is_fill t
