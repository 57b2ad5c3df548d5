-- What a walk over a clause found.
use Rattle.std.specs.Prelude.{List, Option, MatchOption}
use Rattle.cnf.specs.declared.Dim.{Dim}
use Rattle.cnf.specs.Clauses.{Valuation, IsConflict, IsUnit}
use Rattle.cnf.specs.declared.walk.ClauseState.{ClauseState}
use Rattle.cnf.specs.declared.walk.ClauseState.TheVariants.{Conflict, Unit as UnitOf, Neither}

-- neither a conflict nor unit
abbrev pub IsNeither : Valuation → List Dim → Type 0
IsNeither a clause = (IsConflict a clause → ⊥) × ((d : Dim) → IsUnit a clause d → ⊥)

abbrev pub IsState : Valuation → List Dim → ClauseState → Type 0
IsState a clause Conflict = IsConflict a clause
IsState a clause (UnitOf d) = IsUnit a clause d
IsState a clause Neither = IsNeither a clause

-- What a look at the literals so far has found: all are false, or one is open and the others are false.
abbrev pub Looked : Valuation → List Dim → Option Dim → Type 0
Looked a clause found = MatchOption found (IsConflict a clause) (IsUnit a clause)
