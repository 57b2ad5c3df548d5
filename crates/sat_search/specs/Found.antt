-- What propagation came to.
use Rattle.std.specs.Prelude.{ℕ, ◌<◌, Option, List, length, MatchOption}
use Rattle.cnf.specs.declared.Dim.{Dim}
use Rattle.cnf.specs.Clauses.{Valuation, IsConflict}
use Rattle.refute_check.specs.Accepted.{clause_at}

-- Either this holds, or the clause with this number is false.
abbrev pub IsFound : List (List Dim) → Valuation → Option ℕ → Type 0 → Type 0
IsFound db a found P = MatchOption found P (λ k. (k < length db) × IsConflict a (clause_at db k))
