-- Places of wires as a list by the numbers of the wires.
use Rattle.std.specs.Prelude.{ℕ, zero, suc, List, [], ◌∷◌, Option, Some, None}

-- the list with a place at a number
unfoldable pub with_place : ℕ → ℕ → List (Option ℕ) → List (Option ℕ)
with_place zero p [] = Some p ∷ []
with_place zero p (x ∷ xs) = Some p ∷ xs
with_place (suc n) p [] = None ∷ with_place n p []
with_place (suc n) p (x ∷ xs) = x ∷ with_place n p xs

-- pairs of a wire and its place as a list by the numbers of the wires
unfoldable pub laid : List (ℕ × ℕ) → List (Option ℕ)
laid [] = []
laid (e ∷ es) = with_place e.0 e.1 (laid es)
