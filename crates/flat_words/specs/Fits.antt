-- Which numbers, vectors and spots code can hold. What a text of the form says is all of these.
use Rattle.std.specs.Prelude.{ℕ, ◌-◌, ◌^◌, ◌<◌, ◌≤◌, ℤ, List, length, IsTrue}
use Rattle.fourvec.specs.declared.Bit.{Bit}
use Rattle.fourvec.specs.declared.Spot.{Spot}
use Rattle.flat_text.specs.FlatTexts.{is_long, FitsSpot}

-- a number that a word holds, but for its greatest
abbrev pub FitsNumber : ℕ → Type 0
FitsNumber n = n < 2 ^ 64 - 1

-- a number that a byte holds
abbrev pub FitsByte : ℕ → Type 0
FitsByte n = n < 256

-- a number of 64 bits with a sign
abbrev pub FitsLong : ℤ → Type 0
FitsLong i = IsTrue (is_long i)

-- 1 to 128 bits
abbrev pub FitsVector : List Bit → Type 0
FitsVector v = (0 < length v) × (length v ≤ 128)

-- a spot whose numbers are of their types
abbrev pub FitsParts : Spot → Type 0
FitsParts s = FitsSpot s × (s.width < 256)
