use Rattle.std.proofs.Common.{◌≡◌, ◌++◌, ◌≤◌, length, map, reverse, drop}
use Rattle.vcd_print.specs.Printed.{digit}
use Rattle.vcd_print.proofs.print.push_bits.Given as goal

abbrev pub invariant-bits : goal.invariant-bits
invariant-bits l = record {
  inside : l.at ≤ length l.value;
  so_far : l.text.items ≡ l.fn.text.items ++ map digit (reverse (drop l.at l.value));
}

abbrev pub decreases-bits : goal.decreases-bits
decreases-bits l = l.at
