-- The constants of cells in the width of a signal (this project's rules).
use Rattle.std.specs.Prelude.{ℕ, ◌||◌, Bool, List, drop, replicate, if◌then◌else◌}
use Rattle.fourvec.specs.declared.Bit.{Bit}
use Rattle.fourvec.specs.declared.Bit.TheVariants.{Zero}
use Rattle.fourvec.specs.Bits.{all_zero, first}
use Rattle.sv_literal.specs.Value.{fitted}
use Rattle.sv_literal.specs.declared.meaning.Literal.{Literal}

-- the bits past a width are 0; a fill has as many bits as are wanted
unfoldable pub fits : Literal → ℕ → Bool
fits literal width = literal.fill || all_zero (drop width literal.value)

-- the vector of a width: a fill repeats its bit, and any other is cut or extended with 0
unfoldable pub constant : Literal → ℕ → List Bit
constant literal width = if literal.fill then replicate width (first literal.value) else fitted width Zero literal.value
