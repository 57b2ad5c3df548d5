use Rattle.std.proofs.Common.{◌≡◌, ◌++◌}
use Rattle.svtv_selftest.specs.Texts.{each_from, registers}
use Rattle.svtv_selftest.proofs.texts.push_all_registers.Given as goal

abbrev pub invariant-registers : goal.invariant-registers
invariant-registers l = l.text.items ≡ l.fn.text.items ++ each_from 1 l.k registers
