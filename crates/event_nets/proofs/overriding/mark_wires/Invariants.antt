use Rattle.std.proofs.Common.{◌≡◌, ℕ, ◌<◌, false, length, get_or, take}
use Rattle.driver_resolve.specs.Drivers.{has_wire}
use Rattle.event_nets.proofs.overriding.mark_wires.Given as goal

abbrev pub invariant-loop-wire : goal.invariant-loop-wire
invariant-loop-wire l = (length l.marks ≡ length l.initial.marks) × ((wire : ℕ) → wire < length l.initial.marks → get_or l.marks wire false ≡ has_wire (take l.wire-index l.over) wire)
