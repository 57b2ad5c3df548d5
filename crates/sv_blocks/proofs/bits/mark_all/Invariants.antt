use Rattle.std.proofs.Common.{◌≤◌, length, drop}
use Rattle.sv_blocks.specs.Declaring.{IsSoFar}
use Rattle.sv_blocks.proofs.bits.mark_all.Given as goal

abbrev pub invariant-bits : goal.invariant-bits
invariant-bits l = record {
  within : l.at ≤ length l.bits;
  made : IsSoFar l.fn.scene l.scene (drop l.at l.bits) l.each.items;
}

abbrev pub decreases-bits : goal.decreases-bits
decreases-bits l = l.at
