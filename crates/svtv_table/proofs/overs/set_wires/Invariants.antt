use Rattle.std.proofs.Common.{◌≡◌, ◌++◌, drop}
use Rattle.svtv_table.specs.Overs.{set_wires}
use Rattle.svtv_table.proofs.overs.set_wires.Given as goal

abbrev pub invariant-loop-wire : goal.invariant-loop-wire
invariant-loop-wire l = l.wires.items ++ set_wires (drop l.wire-index l.overs) l.phase ≡ set_wires l.overs l.phase
