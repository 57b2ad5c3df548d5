-- Logs of new clauses.
use Rattle.std.specs.Prelude.{◌≡◌, ◌≢◌, ℕ, ◌<◌, List, [], ◌∷◌, length}
use Rattle.std.specs.List.{All, Contains}
use Rattle.cnf.specs.declared.Dim.{Dim}
use Rattle.cnf.specs.Formula.{Formula}
use Rattle.refute_check.specs.Entry.{Entry}
use Rattle.refute_check.specs.Accepted.{IsDerived, known, entry_at}

-- no variable stands twice
abbrev pub NamesOnce : List Dim → Type 0
NamesOnce [] = Unit {0}
NamesOnce (d ∷ ds) = All (λ e. e.var ≢ d.var) ds × NamesOnce ds

-- each literal of `clause` stands in `other`
abbrev pub Subsumes : List Dim → List Dim → Type 0
Subsumes clause other = All (Contains other) clause

-- The step follows, is not empty, names no variable twice and contains all of no earlier clause.
pub record IsNew (vars : ℕ) (db : List (List Dim)) (step : Entry) : Type 0 where
  pub derived : IsDerived vars db step
  pub some : step.clause ≢ []
  pub once : NamesOnce step.clause
  pub fresh : All (λ c. Subsumes c step.clause → ⊥) db

-- n steps, each new
pub record IsFresh (formula : Formula) (log : List Entry) (n : ℕ) : Type 0 where
  pub count : length log ≡ n
  pub each : (k : ℕ) → k < n → IsNew formula.vars (known formula log k) (entry_at log k)
