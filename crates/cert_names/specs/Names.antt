-- The variables that clauses and a log name.
use Rattle.std.specs.Prelude.{◌≡◌, ℕ, ◌+◌, ◌*◌, ◌<◌, List, ◌++◌, length, map, slice_index_or}
use Rattle.std.specs.List.{All, AllZip, Contains, flat_map}
use Rattle.cnf.specs.declared.Dim.{Dim}
use Rattle.cnf.specs.Formula.{Formula}
use Rattle.cnf.specs.Clauses.{AreBelow, AllBelow}
use Rattle.refute_check.specs.Entry.{Entry}
use Rattle.refute_check.specs.Accepted.{entry_at}

-- Clauses and steps name variables below the bound alone.
pub record NamesBelow (bound : ℕ) (f : Formula) (log : List Entry) : Type 0 where
  pub clauses : AllBelow bound f.clauses
  pub steps : (k : ℕ) → k < length log → AreBelow bound (entry_at log k).clause

-- ---- names

-- the variable of each literal
abbrev pub names_in : List Dim → List ℕ
names_in clause = map (λ d. d.var) clause

abbrev pub names_of : List (List Dim) → List Entry → List ℕ
names_of clauses log = flat_map names_in clauses ++ flat_map (λ s. names_in s.clause) log

-- how many literals there are
abbrev pub literals_in : Formula → List Entry → ℕ
literals_in f log = length (names_of f.clauses log)

-- how great a variable may be beside so many literals
abbrev pub roomy : ℕ → ℕ
roomy literals = 8 * literals + 1000

-- ---- new numbers

-- The old variable stands at the place of the new number.
abbrev pub IsAt : List ℕ → ℕ → ℕ → Type 0
IsAt names old new = (new < length names) × (slice_index_or names new 0 ≡ old)

abbrev pub IsRenamed : List ℕ → Dim → Dim → Type 0
IsRenamed names old new = IsAt names old.var new.var × (old.negated ≡ new.negated)

abbrev pub AreRenamed : List ℕ → List Dim → List Dim → Type 0
AreRenamed names old new = AllZip (IsRenamed names) old new

-- a step with other variables and the same hints
abbrev pub IsRenamedStep : List ℕ → Entry → Entry → Type 0
IsRenamedStep names old new = AreRenamed names old.clause new.clause × (old.hints ≡ new.hints)

-- each variable is one of the names
abbrev pub AreNamed : List ℕ → List Dim → Type 0
AreNamed names clause = All (λ d. Contains names d.var) clause

-- Clauses and a log with other variables: the names' places.
pub record AreNew (names : List ℕ) (f : Formula) (log : List Entry) (g : Formula) (more : List Entry) : Type 0 where
  pub vars : g.vars ≡ length names
  pub clauses : AllZip (AreRenamed names) f.clauses g.clauses
  pub steps : AllZip (IsRenamedStep names) log more
