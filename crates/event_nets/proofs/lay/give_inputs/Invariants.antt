use Rattle.std.proofs.Common.{◌≡◌, ◌++◌, List, take}
use Rattle.lhs_alias.specs.Joined.{Stands, widths_of}
use Rattle.settling.specs.Settling.{Link}
use Rattle.event_nets.specs.Gifts.{stimulus_gifts}
use Rattle.event_nets.specs.Tables.{home_of}
use Rattle.event_nets.proofs.lay.give_inputs.Given as goal

abbrev pub invariant-loop-wire : goal.invariant-loop-wire
invariant-loop-wire l = (links : List Link) → Stands l.joins links → l.gifts.items ≡ l.initial.gifts.items ++ stimulus_gifts (home_of links (widths_of l.joins)) 0 (take l.wire l.wires)
