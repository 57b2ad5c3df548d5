-- Forms of single words: codes, numbers, bits, real numbers, and what a word begins.
use Rattle.std.specs.Prelude.{ℕ, ◌+◌, ◌-◌, ◌*◌, ◌&&◌, ◌||◌, ◌==◌, not, nat_lt, nat_le, Bool, true, List, [], ◌∷◌, ◌++◌, length, drop, codes, Option, None, Some, is_some, if◌then◌else◌}
use Rattle.std.specs.List.{list_all, prefix_len}
use Rattle.std.specs.Str.{bytes_eq}
use Rattle.fourvec.specs.declared.Bit.{Bit}
use Rattle.fourvec.specs.declared.Bit.TheVariants.{Zero, One, Unknown, Floating}
use Rattle.vcd_text.specs.declared.role.Role.{Role}
use Rattle.vcd_text.specs.declared.role.Role.TheVariants.{Scope, Upscope, Var, Ending, Skipped, Dump, End, Other}
use Rattle.vcd_text.specs.declared.role.Lead.{Lead}
use Rattle.vcd_text.specs.declared.role.Lead.TheVariants.{Time, Scalar, Vector, Real, Nothing}
use Rattle.vcd_text.specs.declared.waves.VarKind.{VarKind}
use Rattle.vcd_text.specs.declared.waves.VarKind.TheVariants.{Bits, Number}
use Rattle.vcd_text.specs.Words.{Text}

-- what is made of a value, if there is one
abbrev pub chain : {A B : Type 0} → Option A → (A → Option B) → Option B
chain None f = None
chain (Some a) f = f a

-- ---- codes

-- from `!` to `~`
abbrev pub is_code_byte : ℕ → Bool
is_code_byte b = nat_le 33 b && nat_le b 126

abbrev pub are_code_bytes : Text → Bool
are_code_bytes t = list_all is_code_byte t

-- one such byte or more
abbrev pub is_code : Text → Bool
is_code t = not (length t == 0) && are_code_bytes t

-- ---- numbers

abbrev pub is_digit : ℕ → Bool
is_digit b = nat_le 48 b && nat_le b 57

abbrev pub all_digits : Text → Bool
all_digits t = list_all is_digit t

-- one digit or more
abbrev pub are_digits : Text → Bool
are_digits t = not (length t == 0) && all_digits t

unfoldable pub value_after : ℕ → Text → ℕ
value_after n [] = n
value_after n (c ∷ more) = value_after (n * 10 + (c - 48)) more

-- the number that digits say
abbrev pub value : Text → ℕ
value ds = value_after 0 ds

-- the number that a word says, if it is digits and this is at most so great
unfoldable pub number_to : ℕ → Text → Option ℕ
number_to most t = if are_digits t && nat_le (value t) most then Some (value t) else None

-- the greatest width
abbrev pub most_width : ℕ
most_width = 2147483647

-- the greatest time
abbrev pub most_time : ℕ
most_time = 18446744073709551615

-- ---- bits

abbrev pub bit_of : ℕ → Option Bit
bit_of b = if b == 48 then Some Zero else (if b == 49 then Some One else (if (b == 120) || (b == 88) then Some Unknown else (if (b == 122) || (b == 90) then Some Floating else None)))

unfoldable pub bits_behind : List Bit → Text → Option (List Bit)
bits_behind front [] = Some front
bits_behind front (d ∷ more) = chain (bit_of d) (λ b. bits_behind (front ++ b ∷ []) more)

-- the bits that a word says, as they stand in it
abbrev pub bits_of : Text → Option (List Bit)
bits_of t = bits_behind [] t

abbrev pub is_bit : ℕ → Bool
is_bit d = is_some (bit_of d)

abbrev pub all_bits : Text → Bool
all_bits t = list_all is_bit t

-- one bit or more
abbrev pub are_bits : Text → Bool
are_bits t = not (length t == 0) && all_bits t

-- ---- real numbers

-- without a sign
abbrev pub unsigned : Text → Text
unsigned [] = []
unsigned (b ∷ t) = if (b == 43) || (b == 45) then t else b ∷ t

-- nothing, or `e` or `E` with digits behind a sign or none
abbrev pub is_exponent : Text → Bool
is_exponent [] = true
is_exponent (b ∷ t) = ((b == 101) || (b == 69)) && are_digits (unsigned t)

-- behind digits
abbrev pub undigited : Text → Text
undigited t = drop (prefix_len is_digit t) t

-- one digit or more, and an exponent
abbrev pub is_decimals : Text → Bool
is_decimals t = nat_lt 0 (prefix_len is_digit t) && is_exponent (undigited t)

-- an exponent, or digits behind a point and an exponent
abbrev pub is_fraction : Text → Bool
is_fraction [] = true
is_fraction (b ∷ t) = if b == 46 then is_decimals t else is_exponent (b ∷ t)

-- `inf` or `nan`, as programs write them
abbrev pub is_no_number : Text → Bool
is_no_number t = bytes_eq t (codes "inf") || (bytes_eq t (codes "nan") || (bytes_eq t (codes "Inf") || bytes_eq t (codes "NaN")))

-- digits, a fraction or none, and an exponent or none
abbrev pub is_decimal : Text → Bool
is_decimal t = nat_lt 0 (prefix_len is_digit t) && is_fraction (undigited t)

abbrev pub is_magnitude : Text → Bool
is_magnitude t = is_decimal t || is_no_number t

-- a real number, as programs write it
abbrev pub is_real : Text → Bool
is_real t = is_magnitude (unsigned t)

-- ---- what a word begins

-- what is skipped up to its `$end`
abbrev pub is_skipped : Text → Bool
is_skipped t = bytes_eq t (codes "$date") || (bytes_eq t (codes "$version") || (bytes_eq t (codes "$timescale") || bytes_eq t (codes "$comment")))

-- what is skipped as its `$end` is, so that the changes between the two count
abbrev pub is_dump : Text → Bool
is_dump t = bytes_eq t (codes "$dumpvars") || (bytes_eq t (codes "$dumpall") || (bytes_eq t (codes "$dumpon") || bytes_eq t (codes "$dumpoff")))

abbrev pub is_end : Text → Bool
is_end t = bytes_eq t (codes "$end")

-- what a signal of a kind holds
abbrev pub kind_of : Text → VarKind
kind_of t = if bytes_eq t (codes "real") then Number else Bits

unfoldable pub role_of : Text → Role
role_of t =
    if bytes_eq t (codes "$scope") then Scope
    else (if bytes_eq t (codes "$upscope") then Upscope
    else (if bytes_eq t (codes "$var") then Var
    else (if bytes_eq t (codes "$enddefinitions") then Ending
    else (if is_end t then End
    else (if is_skipped t then Skipped
    else (if is_dump t then Dump else Other))))))

-- what a change or a time begins with
unfoldable pub lead_of : ℕ → Lead
lead_of b =
    if b == 35 then Time
    else (if (b == 98) || (b == 66) then Vector
    else (if (b == 114) || (b == 82) then Real
    else (elim (bit_of b) [ None ↦ Nothing | Some bit ↦ Scalar bit ])))
