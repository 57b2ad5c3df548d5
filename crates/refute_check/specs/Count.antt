-- How many sets of literals contain no clause, so that a search for new clauses ends.
use Rattle.std.specs.Prelude.{ℕ, zero, suc, ◌+◌, Bool, true, false, cond, ◌||◌, nat_eq, List, [], ◌∷◌, Some, None}
use Rattle.std.specs.List.{list_all}
use mathlib.Core.Bool.{beq}
use Rattle.cnf.specs.declared.Dim.{Dim}
use Rattle.cnf.specs.Clauses.{Valuation}

-- whether the literal is false
abbrev pub is_false : Valuation → Dim → Bool
is_false a d = elim (a d.var) as (λ _. Bool) [ None ↦ false | Some b ↦ beq b d.negated ]

-- whether some clause is false
abbrev pub some_false : List (List Dim) → Valuation → Bool
some_false [] a = false
some_false (c ∷ cs) a = list_all (is_false a) c || some_false cs a

abbrev pub with : Valuation → ℕ → Bool → Valuation
with a v b = λ w. cond (nat_eq w v) (Some b) (a w)

-- of the ways to give values to some of the variables below n, how many make no clause false
abbrev pub free_count : ℕ → List (List Dim) → Valuation → ℕ
free_count zero db a = cond (some_false db a) 0 1
free_count (suc n) db a = free_count n db a + (free_count n db (with a n true) + free_count n db (with a n false))
