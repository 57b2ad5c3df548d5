use Rattle.std.proofs.Common.{◌≡◌, take}
use Rattle.driver_resolve.specs.Drivers.{widths_of}
use Rattle.sv_elab.proofs.signals.widths.Given as goal

abbrev pub invariant-wires : goal.invariant-wires
invariant-wires l = l.all.items ≡ widths_of (take l.wire-index l.wires)
