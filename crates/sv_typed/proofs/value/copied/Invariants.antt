use Rattle.std.proofs.Common.{◌≡◌, ◌*◌, length}
use Rattle.sv_meaning.specs.Meanings.{copies}
use Rattle.sv_typed.proofs.value.copied.Given as goal

abbrev pub invariant-copies : goal.invariant-copies
invariant-copies l = record {
  is : l.all ≡ copies l.made l.bits;
  width : length l.all ≡ l.made * length l.bits;
}
