-- Clauses whose literals stand one after another.
use Rattle.std.specs.Prelude.{ℕ, ◌-◌, ◌≤◌, List, map, take, drop}
use Rattle.cnf.specs.declared.Dim.{Dim}
use Rattle.sat_state.specs.declared.store.Span.{Span}

abbrev pub clause_in : List Dim → Span → List Dim
clause_in dims p = take (p.end - p.start) (drop p.start dims)

abbrev pub clauses_in : List Dim → List Span → List (List Dim)
clauses_in dims spans = map (λ p. clause_in dims p) spans

-- it ends no earlier than it starts, and within so many literals
abbrev pub IsInside : ℕ → Span → Type 0
IsInside count p = (p.start ≤ p.end) × (p.end ≤ count)
