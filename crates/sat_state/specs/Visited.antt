-- What a visit of a clause found.
use Rattle.std.specs.Prelude.{◌≡◌, ◌≢◌, ◌⊎◌, ℕ, ◌<◌, false, Option, List, length, slice_index_or, MatchOption}
use Rattle.std.specs.List.{All, Contains}
use Rattle.cnf.specs.declared.Dim.{Dim}
use Rattle.cnf.specs.Clauses.{Valuation, IsFalsified, IsConflict, IsUnit}
use Rattle.sat_state.specs.declared.watch.Pair.{Pair}
use Rattle.sat_state.specs.declared.watch.Visit.{Visit}
use Rattle.sat_state.specs.declared.watch.Visit.TheVariants.{Keep, Move, Unit as UnitOf, Conflict}
use Rattle.sat_state.specs.Watch.{HasTrue, IsMove}

abbrev pub no_dim : Dim
no_dim = record { var = 0; negated = false }

-- each literal is this one or false, or the one at this place is neither
abbrev pub IsFreeAt : Valuation → List Dim → Dim → Option ℕ → Type 0
IsFreeAt a clause other place = MatchOption place (All (λ e. (e ≡ other) ⊎ IsFalsified a e) clause)
    (λ i. (i < length clause) × (slice_index_or clause i no_dim ≢ other) × (IsFalsified a (slice_index_or clause i no_dim) → ⊥))

abbrev pub IsVisited : Valuation → List Dim → Pair → Dim → Visit → Type 0
IsVisited a clause pair d (Keep b) = Contains clause b × (HasTrue a clause ⊎ ((pair.a ≢ d) × (pair.b ≢ d)))
IsVisited a clause pair d (Move p place) = IsMove a clause pair d p
IsVisited a clause pair d (UnitOf o) = IsUnit a clause o
IsVisited a clause pair d Conflict = IsConflict a clause
