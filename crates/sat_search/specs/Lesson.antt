-- What a conflict teaches, and what the search keeps in order.
use Rattle.std.specs.Prelude.{◌≡◌, ℕ, ◌+◌, ◌-◌, ◌<◌, ◌≤◌, Bool, List, [], ◌∷◌, ◌++◌, length, reverse, take, slice_index_or}
use Rattle.std.specs.List.{filter}
use Rattle.cnf.specs.declared.Dim.{Dim}
use Rattle.cnf.specs.Clauses.{AllBelow, all_open, valuation}
use Rattle.refute_check.specs.Entry.{Entry}
use Rattle.refute_check.specs.Accepted.{IsDerived}
use Rattle.refute_check.specs.Fresh.{IsNew}
use Rattle.refute_check.specs.Count.{free_count}
use Rattle.sat_state.specs.declared.trail.Assigned.{Assigned}
use Rattle.sat_state.specs.declared.watch.Pair.{Pair}
use Rattle.sat_state.specs.declared.watch.Watch.{Watch}
use Rattle.sat_state.specs.Lists.{TrailLists}
use Rattle.sat_state.specs.Trail.{falses, IsSound, open_count}
use Rattle.sat_search.specs.Learn.{seen_at, IsTraced, no_assigned}
use Rattle.sat_state.specs.Watch.{AllHalf, ArePairs, AreLists, Listed, ListedBut, WasCalm}
use Rattle.sat_search.specs.Walk.{before}

-- The step is empty, and follows.
abbrev pub IsLast : ℕ → List (List Dim) → Entry → Type 0
IsLast vars db step = (step.clause ≡ []) × IsDerived vars db step

-- The first n literals of the trail teach a new clause: the negation of the last of them, and those of the others that are seen.
pub record IsTaught (vars : ℕ) (db : List (List Dim)) (entries : List Assigned) (seen : List Bool) (n : ℕ) (step : Entry) : Type 0 where
  pub new : IsNew vars db step
  pub first : step.clause ≡ (slice_index_or entries (n - 1) no_assigned).dim ∷ filter (λ d. seen_at seen d.var) (falses (take (n - 1) entries))
  pub less : free_count vars (db ++ step.clause ∷ []) all_open < free_count vars db all_open
  pub traced : IsTraced seen (reverse (take n entries))

-- The clauses, the pairs, the lists and the trail are in order, where the clauses are listed so.
pub record InOrder (vars : ℕ) (db : List (List Dim)) (pairs : List Pair) (rows : List (List Watch)) (trail : TrailLists) (AreListed : Type 0) : Type 0 where
  pub below : AllBelow vars db
  pub sound : IsSound db trail.values trail.entries
  pub width : length trail.values ≡ vars
  pub paired : ArePairs db pairs
  pub filed : AreLists vars db rows
  pub listed : AreListed
  pub was : WasCalm db pairs (reverse trail.entries)

-- What the search keeps: each clause is in the lists of its watched literals.
abbrev pub IsReady : ℕ → List (List Dim) → List Pair → List (List Watch) → TrailLists → Type 0
IsReady vars db pairs rows trail = InOrder vars db pairs rows trail (Listed pairs rows)

-- The same while the list of d is out: the clauses of that list are `own`.
abbrev pub IsOut : ℕ → List (List Dim) → List Pair → List (List Watch) → TrailLists → Dim → List ℕ → Type 0
IsOut vars db pairs rows trail d own = InOrder vars db pairs rows trail (ListedBut pairs rows d own)

-- All that was assigned before this place has been looked at.
pub record IsHalfway (db : List (List Dim)) (pairs : List Pair) (trail : TrailLists) (from : ℕ) : Type 0 where
  pub range : from ≤ length trail.entries
  pub half : AllHalf db pairs (before trail.entries from) (valuation trail.values)

-- Values were only given: the trail is no shorter, and each literal that it got took an open variable.
pub record IsFuller (old new : TrailLists) : Type 0 where
  pub longer : length old.entries ≤ length new.entries
  pub filled : open_count new.values + length new.entries ≡ open_count old.values + length old.entries
