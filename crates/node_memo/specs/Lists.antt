-- Lists of numbers into which a number is put.
use Rattle.std.specs.Prelude.{◌≡◌, ◌⊎◌, ℕ, List, [], length, Contains, slice_index_or}

-- A number is put into some of the lists, and nothing is taken out.
pub record Gains (old : List (List ℕ)) (number : ℕ) (new : List (List ℕ)) : Type 0 where
  pub len : length new ≡ length old
  pub keeps : (k n : ℕ) → Contains (slice_index_or old k []) n → Contains (slice_index_or new k []) n
  pub only : (k n : ℕ) → Contains (slice_index_or new k []) n → Contains (slice_index_or old k []) n ⊎ (n ≡ number)
