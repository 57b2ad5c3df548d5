-- The values, and the trail of literals that are false.
use Rattle.std.specs.Prelude.{◌≡◌, ℕ, ◌<◌, Bool, Option, None, List, [], ◌∷◌, map, reverse, length, is_none, MatchOption}
use Rattle.refute_check.specs.Entry.{Entry}
use Rattle.std.specs.List.{All, count_by}
use Rattle.cnf.specs.declared.Dim.{Dim}
use Rattle.cnf.specs.Clauses.{negate, Valuation, valuation, denied, IsConflict, IsUnit}
use Rattle.refute_check.specs.Accepted.{clause_at, known_of}
use Rattle.sat_state.specs.declared.trail.Assigned.{Assigned}

abbrev pub dims : List Assigned → List Dim
dims es = map (λ e. e.dim) es

-- the false literals, the newest first
abbrev pub falses : List Assigned → List Dim
falses trail = dims (reverse trail)

-- of the trail, the newest first: no variable stands twice
abbrev pub IsApart : ℕ → List Assigned → Type 0
IsApart vars [] = Unit {0}
IsApart vars (e ∷ es) = (e.dim.var < vars) × (denied (dims es) e.dim.var ≡ None) × IsApart vars es

-- the values are those of the trail
pub record Tracks (values : List (Option Bool)) (trail : List Assigned) : Type 0 where
  pub apart : IsApart (length values) (reverse trail)
  pub same : valuation values ≡ denied (falses trail)

abbrev pub open_count : List (Option Bool) → ℕ
open_count values = count_by (λ o. is_none o) values

-- no clause is false, or unit
abbrev pub IsQuiet : List (List Dim) → Valuation → Type 0
IsQuiet db a = All (λ c. (IsConflict a c → ⊥) × ((d : Dim) → IsUnit a c d → ⊥)) db

-- Where a literal was decided, no clause was false or unit; else its negation was the open literal of a unit clause.
abbrev pub Why : List (List Dim) → Valuation → Assigned → Type 0
Why db a e = MatchOption e.reason (IsQuiet db a) (λ r. (r < length db) × IsUnit a (clause_at db r) (negate e.dim))

-- of the trail, the newest first
abbrev pub IsExplained : List (List Dim) → List Assigned → Type 0
IsExplained db [] = Unit {0}
IsExplained db (e ∷ es) = Why db (denied (dims es)) e × IsExplained db es

pub record IsSound (db : List (List Dim)) (values : List (Option Bool)) (trail : List Assigned) : Type 0 where
  pub tracks : Tracks values trail
  pub explained : IsExplained db (reverse trail)

-- the clauses, and those of the steps
abbrev pub all_of : List (List Dim) → List Entry → List (List Dim)
all_of clauses steps = known_of clauses steps (length steps)
