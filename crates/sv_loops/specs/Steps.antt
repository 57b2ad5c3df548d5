-- The next value of a loop's variable (IEEE 1800-2017, 12.7.1 and 27.4).
use Rattle.std.specs.Prelude.{true, List, [], Some}
use Rattle.fourvec.specs.declared.Bit.{Bit}
use Rattle.sv_tree.specs.declared.word.Word.{Word}
use Rattle.sv_typed.specs.declared.ops.Arithmetic.{Arithmetic}
use Rattle.sv_typed.specs.declared.ops.Pair.TheVariants.{Computed}
use Rattle.sv_typed.specs.Ops.{pair_meaning}
use Rattle.sv_names.specs.declared.layout.What.TheVariants.{Number}
use Rattle.sv_names.specs.Kinds.{Entry}
use Rattle.sv_meaning.specs.Layouts.{Name, number_is}
use Rattle.sv_meaning.specs.Meanings.{Meaning, named}

-- the variable of such bits and an expression, put together by an operator; it begins where the expression does
abbrev pub moved_by : Arithmetic → Word → List Bit → Meaning → Meaning
moved_by op w bits m = record (pair_meaning (Computed op) (named w (Some (number_is bits true)) []) m) { start = m.start }

-- the variable as it is declared in the names
abbrev pub index_is : Name → List Bit → Entry
index_is name bits = (name, Number (record { value = bits; signed = true }))
