-- Readers of the words of a line, as functions on what is left of it: what a word at its front says, and what stands behind that.
use Rattle.std.specs.Prelude.{ℕ, ◌+◌, ◌-◌, ◌*◌, ◌^◌, ◌&&◌, ◌||◌, ◌==◌, not, nat_lt, nat_le, ℤ, pos, negsuc, Bool, true, false, List, [], ◌∷◌, length, take, drop, codes, Option, None, Some, slice_index, bytes_eq, if◌then◌else◌}
use Rattle.std.specs.List.{prefix_len}
use Rattle.fourvec.specs.declared.Bit.{Bit}
use Rattle.fourvec.specs.declared.Bit.TheVariants.{Zero, One, Unknown, Floating}
use Rattle.fourvec.specs.declared.Spot.{Spot}
use Rattle.flat_text.specs.Lines.{Text}

-- ---- readers

-- what is read, and what is left; None where the front has not this form
abbrev pub Reader : Type 0 → Type 0
Reader A = Text → Option (A × Text)

-- what is made of a value, if there is one
abbrev pub chain : {A B : Type 0} → Option A → (A → Option B) → Option B
chain None f = None
chain (Some a) f = f a

-- what code answers, with what it leaves
abbrev pub joined : {A : Type 0} → Option A → Text → Option (A × Text)
joined None left = None
joined (Some a) left = Some (a, left)

-- whether code found a mark, with what it leaves
abbrev pub passed : Bool → Text → Option Text
passed true left = Some left
passed false left = None

-- the text behind a mark
unfoldable pub behind : Text → Text → Option Text
behind mark t = if bytes_eq mark (take (length mark) t) then Some (drop (length mark) t) else None

-- behind a mark
unfoldable pub before : {A : Type 0} → Text → Reader A → Reader A
before mark p t = chain (behind mark t) p

-- one after the other
unfoldable pub both : {A B : Type 0} → Reader A → Reader B → Reader (A × B)
both p q t = chain (p t) (λ x. chain (q x.1) (λ y. Some ((x.0, y.0), y.1)))

-- what is made of what is read
unfoldable pub made : {A B : Type 0} → (A → B) → Reader A → Reader B
made f p t = chain (p t) (λ x. Some (f x.0, x.1))

-- only what passes a test
unfoldable pub where_ : {A : Type 0} → (A → Bool) → Reader A → Reader A
where_ test p t = chain (p t) (λ x. if test x.0 then Some x else None)

-- before a mark
unfoldable pub closed : {A : Type 0} → Reader A → Text → Reader A
closed p mark t = chain (p t) (λ x. chain (behind mark x.1) (λ rest. Some (x.0, rest)))

-- what is read of a whole line
unfoldable pub whole : {A : Type 0} → Reader A → Text → Option A
whole p t = chain (p t) (λ x. if length x.1 == 0 then Some x.0 else None)

-- no blank
abbrev pub is_letter : ℕ → Bool
is_letter b = not (b == 32)

-- ---- numbers

abbrev pub is_digit : ℕ → Bool
is_digit b = nat_le 48 b && nat_le b 57

unfoldable pub value_after : ℕ → Text → ℕ
value_after n [] = n
value_after n (c ∷ more) = value_after (n * 10 + (c - 48)) more

-- the number that digits say
abbrev pub value : Text → ℕ
value ds = value_after 0 ds

-- some digits, and no 0 before another
abbrev pub is_plain : Text → Bool
is_plain ds = nat_lt 0 (length ds) && (not (slice_index ds 0 == 48) || (length ds == 1))

-- Digits that say a number below the greatest of a word. No number of a text of the form is greater.
unfoldable pub numeral : Text → Text → Option (ℕ × Text)
numeral ds rest = if is_plain ds && nat_lt (value ds) (2 ^ 64 - 1) then Some (value ds, rest) else None

-- a number, as far as its digits go
unfoldable pub number : Reader ℕ
number t = numeral (take (prefix_len is_digit t) t) (drop (prefix_len is_digit t) t)

abbrev pub is_byte : ℕ → Bool
is_byte n = nat_lt n 256

unfoldable pub byte : Reader ℕ
byte t = where_ is_byte number t

-- behind a blank
unfoldable pub next : Reader ℕ
next t = before (codes " ") number t

unfoldable pub next_byte : Reader ℕ
next_byte t = before (codes " ") byte t

abbrev pub is_positive : ℕ → Bool
is_positive n = nat_lt n (2 ^ 63)

abbrev pub is_negative : ℕ → Bool
is_negative n = nat_lt 0 n && nat_le n (2 ^ 63)

unfoldable pub positive : Reader ℤ
positive t = made pos (where_ is_positive number) t

unfoldable pub negative : Reader ℤ
negative t = made (λ n. negsuc (n - 1)) (where_ is_negative number) t

-- a number of 64 bits with a sign
unfoldable pub signed : Reader ℤ
signed t = if slice_index t 0 == 45 then negative (drop 1 t) else positive t

-- ---- tests and spots

unfoldable pub flag : Reader Bool
flag [] = None
flag (b ∷ t) = if b == 49 then Some (true, t) else (if b == 48 then Some (false, t) else None)

unfoldable pub next_flag : Reader Bool
next_flag t = before (codes " ") flag t

abbrev pub spot_of : (Bool × (Bool × (ℕ × (ℤ × ℕ)))) → Spot
spot_of x = record { signed = x.0; negate = x.1.0; each = x.1.1.0; add = x.1.1.1.0; width = x.1.1.1.1 }

-- `S N EACH ADD W`, behind a blank
unfoldable pub next_spot : Reader Spot
next_spot t = made spot_of (both next_flag (both next_flag (both next_byte (both (λ s. before (codes " ") signed s) next_byte)))) t

-- ---- bits

abbrev pub bit_of : ℕ → Option Bit
bit_of b = if b == 48 then Some Zero else (if b == 49 then Some One else (if b == 120 then Some Unknown else (if b == 122 then Some Floating else None)))

-- the bits of digits, the most significant first, above bits that are known
unfoldable pub bits_onto : List Bit → Text → Option (List Bit)
bits_onto low [] = Some low
bits_onto low (d ∷ more) = chain (bit_of d) (λ b. bits_onto (b ∷ low) more)

-- so many bits, 1 to 128, as all that is left of the line says
abbrev pub is_wide : ℕ → Text → Bool
is_wide w digits = nat_lt 0 w && (nat_le w 128 && (length digits == w))

unfoldable pub bits : ℕ → Reader (List Bit)
bits w t = if is_wide w t then chain (bits_onto [] t) (λ v. Some (v, [])) else None

-- VALUE, up to the end of the line
unfoldable pub vector : Reader (List Bit)
vector t = chain (byte t) (λ x. chain (behind (codes "'b") x.1) (bits x.0))
