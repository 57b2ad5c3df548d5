-- What clauses say, and what they are where some of the variables have values.
use Rattle.std.specs.Prelude.{◌≡◌, ℕ, ◌<◌, ◌⊎◌, Bool, not, if◌then◌else◌, ◌==◌, List, [], ◌∷◌, Option, Some, None, slice_index_or}
use Rattle.std.specs.List.{All, Contains}
use Rattle.cnf.specs.declared.Dim.{Dim}

abbrev pub negate : Dim → Dim
negate d = record { var = d.var; negated = not d.negated }

-- ---- solutions

-- the literal is true where the variables have these values
abbrev pub Holds : (ℕ → Bool) → Dim → Type 0
Holds v d = v d.var ≡ not d.negated

-- one of its literals is true
abbrev pub ClauseHolds : (ℕ → Bool) → List Dim → Type 0
ClauseHolds v clause = (d : Dim) × Contains clause d × Holds v d

-- all clauses are true
abbrev pub Solves : (ℕ → Bool) → List (List Dim) → Type 0
Solves v clauses = All (ClauseHolds v) clauses

abbrev pub HasNoSolution : List (List Dim) → Type 0
HasNoSolution clauses = (v : ℕ → Bool) → Solves v clauses → ⊥

-- ---- variables in range

-- the clause names only variables below the bound
abbrev pub AreBelow : ℕ → List Dim → Type 0
AreBelow bound clause = All (λ d. d.var < bound) clause

abbrev pub AllBelow : ℕ → List (List Dim) → Type 0
AllBelow bound clauses = All (AreBelow bound) clauses

-- ---- unit propagation

-- Some variables have values, and the others are open.
abbrev pub Valuation : Type 0
Valuation = ℕ → Option Bool

-- the values as a list, by the number of the variable; a variable past it is open
abbrev pub valuation : List (Option Bool) → Valuation
valuation values = λ var. slice_index_or values var None

abbrev pub all_open : Valuation
all_open = λ _. None

abbrev pub IsOpen : Valuation → Dim → Type 0
IsOpen a d = a d.var ≡ None

abbrev pub IsFalsified : Valuation → Dim → Type 0
IsFalsified a d = a d.var ≡ Some d.negated

-- with the literal true, and all else as it was
abbrev pub assume : Valuation → Dim → Valuation
assume a d = λ var. if var == d.var then Some (not d.negated) else a var

-- with each literal of the clause false, and each other variable open
abbrev pub denied : List Dim → Valuation
denied [] = all_open
denied (d ∷ ds) = λ var. if var == d.var then Some d.negated else denied ds var

-- each literal is false
abbrev pub IsConflict : Valuation → List Dim → Type 0
IsConflict a clause = All (IsFalsified a) clause

-- d is open, and each other literal is false
pub record IsUnit (a : Valuation) (clause : List Dim) (d : Dim) : Type 0 where
  pub inside : Contains clause d
  pub opened : IsOpen a d
  pub others : All (λ e. (e ≡ d) ⊎ IsFalsified a e) clause
