use Rattle.std.proofs.Common.{◌≡◌, ℕ, ◌<◌, false, ◌++◌, List, length, get_or, take}
use Rattle.lhs_alias.specs.Joined.{Stands, widths_of}
use Rattle.settling.specs.Settling.{Link}
use Rattle.driver_resolve.specs.Drivers.{has_wire}
use Rattle.event_nets.specs.Gifts.{stimulus_gifts}
use Rattle.event_nets.specs.Tables.{home_of}
use Rattle.event_nets.proofs.Cutting.{as_inputs}
use Rattle.event_nets.proofs.overriding.give_marked.Given as goal

abbrev pub invariant-loop-wire : goal.invariant-loop-wire
invariant-loop-wire l = (links : List Link) (over : List ℕ) → Stands l.joins links
    → ((wire : ℕ) → wire < length l.wires → get_or l.marks wire false ≡ has_wire over wire)
    → l.gifts.items ≡ l.initial.gifts.items ++ stimulus_gifts (home_of links (widths_of l.joins)) 0 (take l.wire (as_inputs 0 l.wires over))
