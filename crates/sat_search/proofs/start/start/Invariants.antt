use Rattle.std.proofs.Common.{◌≡◌, length, map}
use Rattle.sat_search.specs.Start.{IsStarted}
use Rattle.sat_state.specs.Watch.{rows}
use Rattle.sat_search.proofs.start.start.Given as goal

abbrev pub invariant-loop-k : goal.invariant-loop-k
invariant-loop-k l = record {
  width : length l.trail.values ≡ length l.fn.trail.values;
  started : IsStarted (length l.fn.trail.values) l.store l.k l.pairs.items (rows l.lists) l.trail l.found;
}
