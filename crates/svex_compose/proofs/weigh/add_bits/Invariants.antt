use Rattle.std.proofs.Common.{◌≡◌, ◌+◌, length}
use Rattle.svex_compose.proofs.weigh.add_bits.Given as goal

abbrev pub invariant-bits : goal.invariant-bits
invariant-bits l = length l.bits.items ≡ l.at + length l.initial.bits.items
