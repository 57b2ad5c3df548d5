-- The order in which variables are decided, and the pointer into it.
use Rattle.std.specs.Prelude.{◌≡◌, ℕ, ◌<◌, ◌≤◌, ◌+◌, Bool, Option, Some, None, List, [], ◌∷◌, length, slice_index_or, MatchOption, IfSome}
use Rattle.std.specs.List.{Contains}
use Rattle.idx_list.specs.Ring.{Has}
use Rattle.cnf.specs.Clauses.{valuation}

-- when the variable was moved to the front last
abbrev pub stamp_at : List ℕ → ℕ → ℕ
stamp_at stamps v = slice_index_or stamps v 0

-- The stamps fall along the list, so of two variables the one with the greater stamp stands before the other.
abbrev pub Falls : List ℕ → List ℕ → Type 0
Falls stamps [] = Unit {0}
Falls stamps (x ∷ xs) = ((y : ℕ) → Has xs y → stamp_at stamps y < stamp_at stamps x) × Falls stamps xs

-- No open variable stands before the pointer; where it has passed the last one, none is open.
abbrev pub IsPast : List (Option Bool) → List ℕ → Option ℕ → Type 0
IsPast values stamps next = (v : ℕ) → v < length values → valuation values v ≡ None → MatchOption next ⊥ (λ n. stamp_at stamps v ≤ stamp_at stamps n)

-- what holds of the list of the variables, their stamps, the newest stamp, and the pointer
pub record IsQueue (values : List (Option Bool)) (items stamps : List ℕ) (clock : ℕ) (next : Option ℕ) : Type 0 where
  pub count : length stamps ≡ length values
  pub whole : (v : ℕ) → v < length values → Contains items v
  pub below : (v : ℕ) → Has items v → v < length values
  pub falls : Falls stamps items
  pub latest : (v : ℕ) → stamp_at stamps v ≤ clock
  pub place : IfSome next (λ n. n < length values)
  pub past : IsPast values stamps next

-- how far the pointer is from the end, by the stamps
abbrev pub rank_of : List ℕ → Option ℕ → ℕ
rank_of stamps None = 0
rank_of stamps (Some n) = stamp_at stamps n + 1

-- the first n variables are in the list, by falling stamps
pub record IsListed (n : ℕ) (items stamps : List ℕ) : Type 0 where
  pub whole : (v : ℕ) → v < n → Contains items v
  pub below : (v : ℕ) → Has items v → v < n
  pub falls : Falls stamps items
