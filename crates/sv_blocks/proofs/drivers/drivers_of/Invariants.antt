use Rattle.std.proofs.Common.{◌≤◌, ◌-◌, length, take}
use Rattle.svex_arena.specs.Arenas.{Extends}
use Rattle.sv_blocks.specs.Driving.{DriveAll}
use Rattle.sv_blocks.proofs.drivers.drivers_of.Given as goal

abbrev pub invariant-bits : goal.invariant-bits
invariant-bits l = record {
  stays : Extends l.fn.arena l.arena;
  within : l.at ≤ length l.bits;
  made : DriveAll l.scene l.fn.arena l.arena l.nodes (take l.at l.bits) l.all;
}

abbrev pub decreases-bits : goal.decreases-bits
decreases-bits l = length l.bits - l.at
