-- When a step follows from earlier clauses, and a log refutes clauses: reverse unit propagation with hints, as in the LRAT format
-- of refutations without deletions.
use Rattle.std.specs.Prelude.{◌≡◌, ℕ, ◌<◌, ◌≤◌, ◌⊎◌, List, [], ◌∷◌, ◌++◌, length, take, map, slice_index_or}
use Rattle.std.specs.List.{All, Contains}
use Rattle.cnf.specs.declared.Dim.{Dim}
use Rattle.cnf.specs.Formula.{Formula}
use Rattle.cnf.specs.Clauses.{negate, AreBelow, AllBelow, Valuation, assume, denied, IsConflict, IsUnit}
use Rattle.refute_check.specs.Entry.{Entry, no_entry}

abbrev pub clause_at : List (List Dim) → ℕ → List Dim
clause_at db h = slice_index_or db h []

-- Each hint but the last names a clause that is unit, and its open literal becomes true. The last one names a conflict.
abbrev pub Derives : List (List Dim) → Valuation → List ℕ → Type 0
Derives db a [] = ⊥
Derives db a (h ∷ []) = (h < length db) × IsConflict a (clause_at db h)
Derives db a (h ∷ i ∷ hs) = (h < length db) × (d : Dim) × IsUnit a (clause_at db h) d × Derives db (assume a d) (i ∷ hs)

-- No literal stands beside its negation.
abbrev pub IsConsistent : List Dim → Type 0
IsConsistent clause = All (λ d. Contains clause (negate d) → ⊥) clause

-- The step follows from the clauses db, over so many variables.
pub record IsDerived (vars : ℕ) (db : List (List Dim)) (step : Entry) : Type 0 where
  pub in_range : AreBelow vars step.clause
  pub consistent : IsConsistent step.clause
  pub derives : Derives db (denied step.clause) step.hints

abbrev pub entry_at : List Entry → ℕ → Entry
entry_at log k = slice_index_or log k no_entry

-- what step k may cite: the clauses, and those of the steps before it
abbrev pub known_of : List (List Dim) → List Entry → ℕ → List (List Dim)
known_of clauses log k = clauses ++ map (λ s. s.clause) (take k log)

abbrev pub known : Formula → List Entry → ℕ → List (List Dim)
known formula log k = known_of formula.clauses log k

abbrev pub IsDerivedAt : Formula → List Entry → ℕ → Type 0
IsDerivedAt formula log k = IsDerived formula.vars (known formula log k) (entry_at log k)

abbrev pub AllDerived : Formula → List Entry → ℕ → Type 0
AllDerived formula log n = (k : ℕ) → k < n → IsDerivedAt formula log k

abbrev pub HasEmpty : List Entry → Type 0
HasEmpty log = (k : ℕ) × (k < length log) × ((entry_at log k).clause ≡ [])

-- Every step is derived, and one is empty.
pub record IsAccepted (formula : Formula) (log : List Entry) : Type 0 where
  pub derived : AllDerived formula log (length log)
  pub empty : HasEmpty log

-- k is the first step that is not derived; or all are, none is empty, and k is their number.
abbrev pub IsBadAt : Formula → List Entry → ℕ → Type 0
IsBadAt formula log k = AllDerived formula log k × (((k < length log) × (IsDerivedAt formula log k → ⊥)) ⊎ ((k ≡ length log) × (HasEmpty log → ⊥)))

-- The first n steps are derived, and they are all, or the next one is not.
pub record IsFront (formula : Formula) (log : List Entry) (n : ℕ) : Type 0 where
  pub range : n ≤ length log
  pub derived : AllDerived formula log n
  pub stop : n < length log → IsDerivedAt formula log n → ⊥

-- each variable of the clause that is below `vars` is below the width
abbrev pub HasRoom : ℕ → ℕ → List Dim → Type 0
HasRoom width vars clause = All (λ d. d.var < vars → d.var < width) clause

-- A checker with room for `width` variables serves for these clauses and this log: it has room for each variable that the clauses name,
-- and for those of the steps that are below `vars`. A step that names another is not derived.
pub record Fits (width : ℕ) (formula : Formula) (log : List Entry) : Type 0 where
  pub clauses : AllBelow width formula.clauses
  pub steps : All (λ s. HasRoom width formula.vars s.clause) log
