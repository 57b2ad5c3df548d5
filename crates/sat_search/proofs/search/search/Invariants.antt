use Rattle.std.proofs.Common.{length}
use Rattle.sat_state.specs.Trail.{open_count}
use Rattle.sat_state.specs.Watch.{rows}
use Rattle.sat_search.specs.Lesson.{IsHalfway, IsReady}
use Rattle.sat_search.proofs.search.search.Given as goal

abbrev pub invariant-loop-k : goal.invariant-loop-k
invariant-loop-k l = record {
  ready : IsReady (length l.fn.trail.values) l.store l.pairs (rows l.lists) l.trail;
  half : IsHalfway l.store l.pairs l.trail l.next;
}

abbrev pub decreases-loop-k : goal.decreases-loop-k
decreases-loop-k l = open_count l.trail.values
