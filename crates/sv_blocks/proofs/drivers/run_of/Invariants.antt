use Rattle.std.proofs.Common.{◌≡◌, ◌≤◌, ◌-◌, length, take}
use Rattle.lhs_alias.specs.Segs.{seg_bits}
use Rattle.sv_blocks.specs.Driving.{run_seg}
use Rattle.sv_blocks.proofs.drivers.run_of.Given as goal

abbrev pub invariant-bits : goal.invariant-bits
invariant-bits l = record {
  some : 1 ≤ l.count;
  most : l.count ≤ 128;
  within : l.count ≤ length l.bits;
  are : take l.count l.bits ≡ seg_bits (run_seg l.first l.count);
}

abbrev pub decreases-bits : goal.decreases-bits
decreases-bits l = 128 - l.count
