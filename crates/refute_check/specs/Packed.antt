-- How a step stands in a row of numbers: how many literals its clause has, these, and how far each hint is from the one before it.
use Rattle.std.specs.Prelude.{ℕ, ◌+◌, ◌-◌, ◌*◌, ◌/◌, ◌%◌, ◌^◌, ◌==◌, nat_le, true, false, if◌then◌else◌, List, [], ◌∷◌, map, take, drop}
use Rattle.refute_check.specs.declared.number.Number.{Number}
use Rattle.refute_check.specs.Groups.{value}
use Rattle.cnf.specs.declared.Dim.{Dim}
use Rattle.refute_check.specs.Entry.{Entry, entry_of, no_entry}

-- A literal has its sign in the last bit of the last group.
unfoldable pub number_of : Dim → Number
number_of d = record { front = d.var / 64; last = d.var % 64 * 2 + (if d.negated then 1 else 0) }

unfoldable pub literal_of : Number → Dim
literal_of n = record { var = (n.front * 64 + n.last / 2) % 2 ^ 64; negated = n.last % 2 == 1 }

-- How far a number is from another, and whether it is below that: a `Dim` with the distance for its variable.
unfoldable pub distance : ℕ → ℕ → Dim
distance from to = if nat_le from to then record { var = to - from; negated = false } else record { var = from - to; negated = true }

-- the number that is so far from another, at the width of a word
unfoldable pub place_at : ℕ → Dim → ℕ
place_at from d = if d.negated then (from + (2 ^ 64 - d.var)) % 2 ^ 64 else (from + d.var) % 2 ^ 64

-- the distance of each number from the one before it, and of the first from `from`
abbrev pub distances : ℕ → List ℕ → List Dim
distances from [] = []
distances from (n ∷ more) = distance from n ∷ distances n more

-- the numbers that have these distances
abbrev pub places_at : ℕ → List Dim → List ℕ
places_at from [] = []
places_at from (d ∷ more) = place_at from d ∷ places_at (place_at from d) more

abbrev pub hint_numbers : List ℕ → List Number
hint_numbers hints = map number_of (distances 0 hints)

unfoldable pub entry_from : List Number → Entry
entry_from [] = no_entry
entry_from (n ∷ rest) = entry_of (map literal_of (take (value n) rest)) (places_at 0 (map literal_of (drop (value n) rest)))
