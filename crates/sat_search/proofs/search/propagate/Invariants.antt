use Rattle.std.proofs.Common.{◌+◌, ◌-◌, length}
use Rattle.sat_state.specs.Trail.{open_count}
use Rattle.sat_state.specs.Watch.{rows}
use Rattle.sat_search.specs.Lesson.{IsFuller, IsHalfway, IsReady}
use Rattle.sat_search.proofs.search.propagate.Given as goal

abbrev pub invariant-loop-at : goal.invariant-loop-at
invariant-loop-at l = record {
  ready : IsReady (length l.fn.trail.values) l.store l.pairs (rows l.lists) l.trail;
  half : IsHalfway l.store l.pairs l.trail l.at;
  fuller : IsFuller l.fn.trail l.trail;
}

abbrev pub decreases-loop-at : goal.decreases-loop-at
decreases-loop-at l = open_count l.trail.values + length l.trail.entries - l.at
