use Rattle.std.proofs.Common.{◌≡◌, length, List, ◌++◌, reverse}
use Rattle.std.specs.List.{filter}
use Rattle.sat_state.specs.declared.trail.Assigned.{Assigned}
use Rattle.sat_state.specs.Trail.{falses, Tracks}
use Rattle.sat_search.specs.Learn.{seen_at, IsClear}
use Rattle.sat_search.proofs.back.leave_level.Given as goal

abbrev pub invariant-loop : goal.invariant-loop
invariant-loop l = record {
  clear : IsClear l.seen (reverse l.trail.entries);
  tracks : Tracks l.trail.values l.trail.entries;
  width : length l.trail.values ≡ length l.fn.trail.values;
  front : (rest : List Assigned) × (l.fn.trail.entries ≡ l.trail.entries ++ rest);
  kept : filter (λ d. seen_at l.seen d.var) (falses l.trail.entries) ≡ filter (λ d. seen_at l.seen d.var) (falses l.fn.trail.entries);
}

abbrev pub decreases-loop : goal.decreases-loop
decreases-loop l = length l.trail.entries
