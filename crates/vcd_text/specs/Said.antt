-- Values from written bits, the most significant first.
use Rattle.std.specs.Prelude.{◌≡◌, ℕ, ◌-◌, ◌++◌, ◌∷◌, [], List, length, map, replicate, unwrap_or, Option, None, Some}
use Rattle.fourvec.specs.declared.Bit.{Bit}
use Rattle.fourvec.specs.declared.Bit.TheVariants.{Zero}
use Rattle.fourvec.specs.Bits.{top}
use Rattle.vcd_text.specs.declared.scan.WrittenChange.{WrittenChange}
use Rattle.vcd_text.specs.Words.{Text}
use Rattle.vcd_text.specs.Forms.{bit_of}
use Rattle.vcd_text.specs.Waves.{Change, filler, fitted, changes_under}

-- the bit that a byte says, and 0 where it says none
abbrev pub bit_said : ℕ → Bit
bit_said b = unwrap_or (bit_of b) Zero

abbrev pub bits_said : Text → List Bit
bits_said t = map bit_said t

-- the value that a change gives, with its time
abbrev pub given : ℕ → WrittenChange → ℕ × List Bit
given width w = (w.time, fitted width (bits_said w.bits.now))

-- the first of the changes under a code, or that there is none
abbrev pub GivesUnder : Text → List Change → Option WrittenChange → List Change → Type 0
GivesUnder code left None more = (width : ℕ) → changes_under code width left ≡ []
GivesUnder code left (Some w) more = (width : ℕ) → changes_under code width left ≡ given width w ∷ changes_under code width more

-- bits below others
unfoldable pub onto_bits : List Bit → List Bit → List Bit
onto_bits high [] = high
onto_bits high (b ∷ more) = onto_bits (b ∷ high) more

-- a bit that is 0 or 1 has 0 above it, and x or z the same
abbrev pub widened : List Bit → Bit → ℕ → List Bit
widened value b width = value ++ replicate (width - length value) (filler (b ∷ []))

-- the highest bit
abbrev pub top_is : List Bit → Bit → Type 0
top_is value b = top value ≡ b
