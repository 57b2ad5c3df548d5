use Rattle.std.proofs.Common.{◌≡◌, ◌++◌, length, map}
use Rattle.std.specs.List.{range_with_len}
use Rattle.event_nets.specs.Runs.{net_test, low_in}
use Rattle.event_nets.proofs.NetPlaces.{low_below}
use Rattle.event_nets.proofs.nets.put_lows.Given as goal

abbrev pub invariant-loop-at : goal.invariant-loop-at
invariant-loop-at l = record {
  start : l.start ≡ length l.initial.lows.items;
  lows : l.lows.items ≡ l.initial.lows.items ++ map (low_in (net_test l.homes l.driven) l.start) (range_with_len 0 l.at);
  below : l.below ≡ low_below (net_test l.homes l.driven) l.start l.at;
}
