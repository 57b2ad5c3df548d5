-- Distinct numbers below a bound, in an order.
use Rattle.std.specs.Prelude.{◌≡◌, ℕ, not, ◌==◌, List, [], ◌∷◌, ◌++◌, filter}

-- the bound, and the numbers from the first to the last
pub record Order : Type 0 where
  pub room : ℕ
  pub items : List ℕ

-- the others, in their order
abbrev pub without : ℕ → List ℕ → List ℕ
without x items = filter (λ y. not (y == x)) items

abbrev pub IsFirst : List ℕ → ℕ → Type 0
IsFirst items x = (rest : List ℕ) × (items ≡ x ∷ rest)

abbrev pub IsLast : List ℕ → ℕ → Type 0
IsLast items x = (front : List ℕ) × (items ≡ front ++ x ∷ [])

-- y stands right after x
abbrev pub Follow : List ℕ → ℕ → ℕ → Type 0
Follow items x y = (front rest : List ℕ) × (items ≡ front ++ x ∷ y ∷ rest)
