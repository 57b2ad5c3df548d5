use Rattle.std.proofs.Common.{◌≡◌, ◌<◌, ◌++◌, [], All, drop, take}
use Rattle.vcd_print.specs.Printed.{declared}
use Rattle.vcd_print.proofs.print.push_declared.Given as goal

abbrev pub invariant-wires : goal.invariant-wires
invariant-wires l = record {
  count : l.number ≡ l.wire-index;
  widths : All (λ w. w.width < 256) (take l.wire-index l.wires);
  so_far : l.text.items ++ declared l.held l.number (drop l.wire-index l.wires) ≡ l.fn.text.items ++ declared [] 0 l.wires;
}
