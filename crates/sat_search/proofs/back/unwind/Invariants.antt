use Rattle.std.proofs.Common.{◌≡◌, ◌⊎◌, length}
use Rattle.std.specs.List.{filter}
use Rattle.sat_state.specs.Trail.{falses, Tracks}
use Rattle.sat_search.specs.Learn.{seen_at, StopsBelow}
use Rattle.sat_search.proofs.back.unwind.Given as goal

abbrev pub invariant-loop-trail : goal.invariant-loop-trail
invariant-loop-trail l = record {
  tracks : Tracks l.trail.values l.trail.entries;
  width : length l.trail.values ≡ length l.fn.trail.values;
  front : (l.trail.entries ≡ l.fn.trail.entries) ⊎ StopsBelow l.fn.trail.entries l.trail.entries;
  kept : filter (λ d. seen_at l.seen d.var) (falses l.trail.entries) ≡ filter (λ d. seen_at l.seen d.var) (falses l.fn.trail.entries);
}

abbrev pub decreases-loop-trail : goal.decreases-loop-trail
decreases-loop-trail l = length l.trail.entries
