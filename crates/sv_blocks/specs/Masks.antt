-- Labels that are compared in part (IEEE 1800-2017, 12.5.1).
use Rattle.std.specs.Prelude.{List, Option, Some, None}
use Rattle.fourvec.specs.declared.Bit.{Bit}
use Rattle.fourvec.specs.Bits.{eq_of, and_of}

-- whether two vectors are equal where a mask is 1, or everywhere where there is none
abbrev pub equal_masked : Option (List Bit) → List Bit → List Bit → List Bit
equal_masked None a b = eq_of a b
equal_masked (Some m) a b = eq_of (and_of a m) (and_of b m)
