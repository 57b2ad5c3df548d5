-- The equations among groups of places.
use Rattle.std.specs.Prelude.{◌-◌, nat_lt, ℕ, List, [], ◌∷◌, if◌then◌else◌}

-- the numbers of the equations among places, of which the first n are nodes
abbrev pub eqs_in : ℕ → List ℕ → List ℕ
eqs_in n [] = []
eqs_in n (x ∷ more) = if nat_lt x n then eqs_in n more else (x - n) ∷ eqs_in n more

-- a group before others, if it has a member
abbrev pub with_group : List ℕ → List (List ℕ) → List (List ℕ)
with_group [] groups = groups
with_group (x ∷ xs) groups = (x ∷ xs) ∷ groups

-- the groups that have an equation, with their equations alone
abbrev pub eq_groups : ℕ → List (List ℕ) → List (List ℕ)
eq_groups n [] = []
eq_groups n (g ∷ more) = with_group (eqs_in n g) (eq_groups n more)
