use Rattle.std.proofs.Common.{◌≡◌, ◌++◌, List, take}
use Rattle.lhs_alias.specs.Joined.{Stands, widths_of}
use Rattle.settling.specs.Settling.{Link}
use Rattle.event_nets.specs.Gifts.{driver_gifts}
use Rattle.event_nets.specs.Tables.{home_of}
use Rattle.event_nets.proofs.lay.give_drivers.Given as goal

abbrev pub invariant-loop-driver : goal.invariant-loop-driver
invariant-loop-driver l = (links : List Link) → Stands l.joins links → l.gifts.items ≡ l.initial.gifts.items ++ driver_gifts (home_of links (widths_of l.joins)) (take l.driver-index l.drivers)
