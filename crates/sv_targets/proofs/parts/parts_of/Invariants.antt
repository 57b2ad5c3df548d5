use Rattle.std.proofs.Common.{◌<◌, ◌≤◌, All, length}
use Rattle.sv_targets.specs.Slots.{Runs}
use Rattle.sv_targets.proofs.parts.parts_of.Given as goal

abbrev pub invariant-slots : goal.invariant-slots
invariant-slots l = record {
  within : l.at ≤ length l.all;
  runs : Runs l.all l.at l.parts l.run.items;
  near : All (λ b. b.at < 128) l.run.items;
}
