use Rattle.std.proofs.Common.{◌≡◌, ◌*◌, false, replicate}
use Rattle.sv_blocks.proofs.wires.no_marks.Given as goal

abbrev pub invariant-wires : goal.invariant-wires
invariant-wires l = l.marks ≡ replicate (l._wire * 128) false
