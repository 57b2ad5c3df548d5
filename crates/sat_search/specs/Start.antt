-- The given clauses are watched one after another.
use Rattle.std.specs.Prelude.{◌≡◌, ◌≢◌, ℕ, ◌<◌, false, slice_index_or, Option, None, List, [], ◌∷◌, length, take, reverse, MatchOption}
use Rattle.std.specs.List.{All, Contains}
use Rattle.cnf.specs.declared.Dim.{Dim}
use Rattle.cnf.specs.Clauses.{IsConflict, valuation}
use Rattle.refute_check.specs.Accepted.{clause_at}
use Rattle.sat_state.specs.declared.trail.Assigned.{Assigned}
use Rattle.sat_state.specs.declared.watch.Pair.{Pair}
use Rattle.sat_state.specs.declared.watch.Watch.{Watch}
use Rattle.sat_state.specs.Lists.{TrailLists}
use Rattle.sat_state.specs.Trail.{IsSound}
use Rattle.sat_state.specs.Watch.{AllHalf, ArePairs, AreLists, Listed}
use Rattle.sat_search.specs.Walk.{before}

-- the first literal, if there is one
abbrev pub first_of : List Dim → Dim
first_of clause = slice_index_or clause 0 (record { var = 0; negated = false })

-- two literals of the clause, or each is the same
abbrev pub IsTwoOf : List Dim → Option Pair → Type 0
IsTwoOf clause pair = MatchOption pair (All (λ b. b ≡ first_of clause) clause) (λ p. (p.a ≢ p.b) × Contains clause p.a × Contains clause p.b)

-- nothing is decided
abbrev pub IsForced : List Assigned → Type 0
IsForced [] = Unit {0}
IsForced (e ∷ es) = (e.reason ≢ None) × IsForced es

-- Each value follows from some clause.
pub record IsForcedBy (db : List (List Dim)) (trail : TrailLists) : Type 0 where
  pub sound : IsSound db trail.values trail.entries
  pub forced : IsForced (reverse trail.entries)

-- The first k clauses are watched, or have their literal true; or some clause is false.
pub record IsStarted (vars : ℕ) (db : List (List Dim)) (k : ℕ) (pairs : List Pair) (rows : List (List Watch)) (trail : TrailLists) (found : Option ℕ) : Type 0 where
  pub by : IsForcedBy db trail
  pub width : length trail.values ≡ vars
  pub paired : ArePairs (take k db) pairs
  pub filed : AreLists vars (take k db) rows
  pub listed : Listed pairs rows
  pub half : MatchOption found (AllHalf (take k db) pairs (before trail.entries 0) (valuation trail.values)) (λ j. (j < length db) × IsConflict (valuation trail.values) (clause_at db j))
