use Rattle.std.proofs.Common.{◌≡◌, ◌≤◌, length, drop, All}
use Rattle.sv_targets.specs.Slots.{IsNear, slots_of}
use Rattle.sv_targets.proofs.slots.all_slots.Given as goal

abbrev pub invariant-upward : goal.invariant-upward
invariant-upward l = record {
  within : l.at ≤ length l.targets;
  is : l.all ≡ slots_of (drop l.at l.targets);
  near : All IsNear l.all;
}

abbrev pub decreases-upward : goal.decreases-upward
decreases-upward l = l.at
