use Rattle.std.proofs.Common.{◌≡◌, List, map, take}
use Rattle.lhs_alias.specs.Joined.{Stands, all_bits}
use Rattle.settling.specs.Settling.{Link}
use Rattle.event_nets.specs.Tables.{home_of}
use Rattle.event_nets.proofs.lay.all_homes.Given as goal

abbrev pub invariant-loop-wire : goal.invariant-loop-wire
invariant-loop-wire l = (links : List Link) → Stands l.joins links → l.homes.items ≡ map (home_of links l.widths) (all_bits (take l.wire l.widths))
