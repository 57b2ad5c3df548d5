use Rattle.std.proofs.Common.{◌≡◌, ◌++◌, All, drop, take}
use Rattle.vcd_print.specs.Printed.{lines_since}
use Rattle.vcd_print.specs.Dumps.{HasBits}
use Rattle.vcd_print.proofs.print.push_since.Given as goal

abbrev pub invariant-wires : goal.invariant-wires
invariant-wires l = record {
  count : l.number ≡ l.value-index;
  bits : All HasBits (take l.value-index l.values);
  so_far : l.text.items ++ lines_since l.number (drop l.value-index l.before) (drop l.value-index l.values) ≡ l.fn.text.items ++ lines_since 0 l.before l.values;
}
