use Rattle.std.proofs.Common.{◌≡◌, ◌++◌, take}
use Rattle.sv_meaning.specs.Targets.{present}
use Rattle.sv_blocks.proofs.bits.target_bits.Given as goal

abbrev pub invariant-slots : goal.invariant-slots
invariant-slots l = l.bits.items ≡ l.fn.bits.items ++ present (take l.slot-index l.slot-items)
