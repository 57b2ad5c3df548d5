use Rattle.std.proofs.Common.{◌≡◌, ◌++◌, take}
use Rattle.std.specs.List.{flat_map}
use Rattle.flat_text.specs.Lines.{ended, wire_line}
use Rattle.flat_print.proofs.print.push_wires.Given as goal

abbrev pub invariant-wires : goal.invariant-wires
invariant-wires l = l.text.items ≡ l.fn.text.items ++ flat_map (λ s. ended (wire_line s)) (take l.wire-index l.wires)
