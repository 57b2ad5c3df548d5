use Rattle.std.proofs.Common.{◌≡◌, ℕ, ◌<◌, [], length, get_or}
use Rattle.driver_resolve.specs.Drivers.{widths_of}
use Rattle.event_rows.proofs.sound.is_valuation.Given as goal

abbrev pub invariant-loop-wire : goal.invariant-loop-wire
invariant-loop-wire l = (k : ℕ) → k < l.wire → length (get_or l.values k []) ≡ get_or (widths_of l.wires) k 0
