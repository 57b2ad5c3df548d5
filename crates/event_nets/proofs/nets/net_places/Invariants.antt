use Rattle.std.proofs.Common.{◌≡◌}
use Rattle.std.specs.Prelude.{filter}
use Rattle.std.specs.List.{range_with_len}
use Rattle.event_nets.specs.Runs.{begins}
use Rattle.event_nets.proofs.nets.net_places.Given as goal

abbrev pub invariant-loop-place : goal.invariant-loop-place
invariant-loop-place l = l.nets.items ≡ filter (begins l.lows) (range_with_len 0 l.place)
