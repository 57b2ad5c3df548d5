use Rattle.std.proofs.Common.{◌≡◌, length, All}
use Rattle.sv_meaning.specs.Targets.{bit_names}
use Rattle.sv_targets.specs.Slots.{IsNear}
use Rattle.sv_targets.proofs.slots.wire_slots.Given as goal

abbrev pub invariant-bits : goal.invariant-bits
invariant-bits l = record {
  is : l.all ≡ bit_names l.wire 0 l.at;
  near : All IsNear l.all;
  long : length l.all ≡ l.at;
}
