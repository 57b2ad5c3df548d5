use Rattle.std.proofs.Common.{◌≡◌, take}
use Rattle.driver_resolve.specs.Drivers.{widths_of}
use Rattle.event_nets.proofs.lay.wire_widths.Given as goal

abbrev pub invariant-loop-wire : goal.invariant-loop-wire
invariant-loop-wire l = l.widths.items ≡ widths_of (take l.wire-index l.wires)
