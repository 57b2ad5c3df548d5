use Rattle.std.proofs.Common.{◌≡◌, ◌≤◌, length, List, ◌++◌}
use Rattle.sat_state.specs.declared.trail.Assigned.{Assigned}
use Rattle.sat_state.specs.Trail.{Tracks}
use Rattle.sat_search.proofs.back.cut.Given as goal

abbrev pub invariant-loop-trail : goal.invariant-loop-trail
invariant-loop-trail l = record {
  tracks : Tracks l.trail.values l.trail.entries;
  width : length l.trail.values ≡ length l.fn.trail.values;
  most : l.n ≤ length l.trail.entries;
  front : (rest : List Assigned) × (l.fn.trail.entries ≡ l.trail.entries ++ rest);
}

abbrev pub decreases-loop-trail : goal.decreases-loop-trail
decreases-loop-trail l = length l.trail.entries
