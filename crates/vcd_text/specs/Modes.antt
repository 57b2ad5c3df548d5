-- What readers wait for, by itself.
use Rattle.std.specs.Prelude.{Bool, true, is_some}
use Rattle.vcd_text.specs.declared.mode.Rest.{Rest}
use Rattle.vcd_text.specs.declared.mode.Rest.TheVariants.{VectorCode}
use Rattle.vcd_text.specs.Forms.{bits_of}

-- where the code behind bits is waited for, these are bits
abbrev pub holds_bits : Rest → Bool
holds_bits (VectorCode digits) = is_some (bits_of digits.now)
holds_bits rest = true
