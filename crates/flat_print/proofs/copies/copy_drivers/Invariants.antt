use Rattle.std.proofs.Common.{◌≡◌, take}
use Rattle.flat_print.proofs.copies.copy_drivers.Given as goal

abbrev pub invariant-loop-driver : goal.invariant-loop-driver
invariant-loop-driver l = l.copies ≡ take l.driver-index l.drivers
