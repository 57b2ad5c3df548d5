-- The trail of the variables that have a value.
use Rattle.std.specs.Prelude.{◌≡◌, ℕ, ◌+◌, ◌<◌, ◌≤◌, Bool, List, length, Option, Some, is_none}
use Rattle.std.specs.List.{All, Contains, count_by}
use Rattle.cnf.specs.Clauses.{valuation}

-- It names each of them, and may hold as many as there are variables.
pub record IsTracked (values : List (Option Bool)) (trail : List ℕ) (most : ℕ) : Type 0 where
  pub room : length values ≤ most
  pub within : All (λ var. var < length values) trail
  pub named : (var : ℕ) (b : Bool) → valuation values var ≡ Some b → Contains trail var
  pub counted : length trail + count_by (λ o. is_none o) values ≤ length values
