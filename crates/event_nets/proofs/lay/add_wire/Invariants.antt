use Rattle.std.proofs.Common.{◌≡◌, ◌+◌, length}
use Rattle.event_nets.proofs.lay.add_wire.Given as goal

abbrev pub invariant-bits : goal.invariant-bits
invariant-bits l = length l.told.items ≡ length l.initial.told.items + l.bit
