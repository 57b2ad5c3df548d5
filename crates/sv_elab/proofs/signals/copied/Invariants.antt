use Rattle.std.proofs.Common.{◌≡◌, take}
use Rattle.sv_elab.proofs.signals.copied.Given as goal

abbrev pub invariant-wires : goal.invariant-wires
invariant-wires l = l.all ≡ take l.wire-index l.wires
