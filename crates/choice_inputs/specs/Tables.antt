-- Clauses of which each rules out one row of values, so that together they have no solution, and the steps that resolve them in pairs.
use Rattle.std.specs.Prelude.{◌≡◌, ℕ, zero, suc, ◌+◌, ◌-◌, ◌*◌, ◌<◌, ◌/◌, ◌^◌, List, [], ◌∷◌, length, map}
use Rattle.std.specs.List.{range_with_len}
use Rattle.cnf.specs.declared.Dim.{Dim}
use Rattle.cnf.specs.Formula.{Formula, formula_of}
use Rattle.fourvec.specs.Bits.{is_odd}
use Rattle.refute_check.specs.Accepted.{AllDerived, clause_at, known}
use Rattle.refute_check.specs.Entry.{Entry}

-- The clause that is false exactly where variables have the bits of a number, so many from `var` on: the least significant bit first.
unfoldable pub ruling_out : ℕ → ℕ → ℕ → List Dim
ruling_out var zero number = []
ruling_out var (suc more) number = record { var = var; negated = is_odd number } ∷ ruling_out (suc var) more (number / 2)

-- a clause for each row of values of so many variables
abbrev pub all_ruled_out : ℕ → Formula
all_ruled_out bits = formula_of bits (map (ruling_out 0 bits) (range_with_len 0 (2 ^ bits)))

-- The steps so far are derived, and the last of the clauses, from place `first` on, rule out each row of values of the variables from `level` on.
pub record IsResolved (bits first level : ℕ) (log : List Entry) : Type 0 where
  pub derived : AllDerived (all_ruled_out bits) log (length log)
  pub place : first + 2 * 2 ^ (bits - level) ≡ 2 * 2 ^ bits
  pub end : first + 2 ^ (bits - level) ≡ 2 ^ bits + length log
  pub clauses : (number : ℕ) → number < 2 ^ (bits - level) → clause_at (known (all_ruled_out bits) log (length log)) (first + number) ≡ ruling_out level (bits - level) number

-- The same within a level: so many clauses without its variable are there.
pub record IsResolving (bits first level count : ℕ) (log : List Entry) : Type 0 where
  pub derived : AllDerived (all_ruled_out bits) log (length log)
  pub place : first + 2 * 2 ^ (bits - level) ≡ 2 * 2 ^ bits
  pub end : first + 2 ^ (bits - level) + count ≡ 2 ^ bits + length log
  pub clauses : (number : ℕ) → number < 2 ^ (bits - level) → clause_at (known (all_ruled_out bits) log (length log)) (first + number) ≡ ruling_out level (bits - level) number
  pub more : (number : ℕ) → number < count → clause_at (known (all_ruled_out bits) log (length log)) (first + 2 ^ (bits - level) + number) ≡ ruling_out (level + 1) (bits - (level + 1)) number
