use Rattle.std.proofs.Common.{◌≡◌, length, All}
use Rattle.fourvec.specs.Spots.{reached}
use Rattle.sv_meaning.specs.Targets.{slots_from}
use Rattle.sv_targets.specs.Slots.{IsNear}
use Rattle.sv_targets.proofs.slots.slots_from.Given as goal

abbrev pub invariant-slots : goal.invariant-slots
invariant-slots l = record {
  is : l.part ≡ slots_from l.all (reached l.from.below l.from.far) l.on;
  near : All IsNear l.part;
  long : length l.part ≡ l.on;
}
