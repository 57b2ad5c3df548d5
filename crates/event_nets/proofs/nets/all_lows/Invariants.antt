use Rattle.std.proofs.Common.{◌≡◌, map, take}
use Rattle.lhs_alias.specs.Segs.{bit}
use Rattle.lhs_alias.specs.Joined.{place_of, all_bits}
use Rattle.event_nets.specs.Runs.{net_test, low_in}
use Rattle.event_nets.proofs.nets.all_lows.Given as goal

abbrev pub invariant-loop-wire : goal.invariant-loop-wire
invariant-loop-wire l = l.lows.items ≡ map (λ b. low_in (net_test l.homes l.driven) (place_of l.widths (bit b.wire 0)) b.at) (all_bits (take l.wire l.widths))
