use Rattle.std.proofs.Common.{◌≡◌, length, replicate, None, All}
use Rattle.sv_targets.specs.Slots.{IsNear}
use Rattle.sv_targets.proofs.slots.no_slots.Given as goal

abbrev pub invariant-slots : goal.invariant-slots
invariant-slots l = record {
  is : l.part ≡ replicate l._on None;
  near : All IsNear l.part;
  long : length l.part ≡ l._on;
}
