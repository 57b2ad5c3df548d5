use Rattle.std.proofs.Common.{◌≡◌, ◌≤◌, ◌+◌, length, take, drop}
use Rattle.std.specs.List.{All}
use Rattle.cnf.specs.Clauses.{valuation}
use Rattle.sat_state.specs.Watch.{IsGood, Rest, numbers, rows}
use Rattle.sat_search.specs.Walk.{before, left_of}
use Rattle.sat_search.specs.Lesson.{IsFuller, IsOut}
use Rattle.sat_search.proofs.walk.work_off.Given as goal

abbrev pub invariant-loop-i : goal.invariant-loop-i
invariant-loop-i l = let db = l.store in record {
  out : IsOut (length l.fn.trail.values) db l.pairs (rows l.lists) l.trail l.d (numbers (left_of l.list l.kept l.i));
  fuller : IsFuller l.fn.trail l.trail;
  front : take (l.at + 1) l.trail.entries ≡ take (l.at + 1) l.fn.trail.entries;
  order : l.kept ≤ l.i;
  good : All (IsGood db) l.list;
  rest : Rest db l.pairs (before l.fn.trail.entries l.at) (before l.fn.trail.entries (l.at + 1)) (valuation l.trail.values) (numbers (drop l.i l.list));
}
