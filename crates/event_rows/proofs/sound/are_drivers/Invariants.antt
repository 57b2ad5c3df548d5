use Rattle.std.proofs.Common.{take}
use Rattle.std.specs.Prelude.{All}
use Rattle.driver_resolve.specs.Drivers.{IsDriver}
use Rattle.event_rows.proofs.sound.are_drivers.Given as goal

abbrev pub invariant-loop-driver : goal.invariant-loop-driver
invariant-loop-driver l = All (IsDriver l.widths l.arena) (take l.driver-index l.drivers)
