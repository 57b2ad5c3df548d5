use Rattle.std.proofs.Common.{◌≡◌, ◌≤◌, length, drop, All}
use Rattle.sv_typing.specs.Picks.{picked_slots}
use Rattle.sv_targets.specs.Slots.{IsNear, target_slots}
use Rattle.sv_targets.proofs.slots.target_slots.Given as goal

abbrev pub invariant-picks : goal.invariant-picks
invariant-picks l = record {
  is : target_slots l.target ≡ picked_slots (drop l.pick-index l.target.picks) l.all;
  near : All IsNear l.all;
  most : length l.all ≤ 128;
}
