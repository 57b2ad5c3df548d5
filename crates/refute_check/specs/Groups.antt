-- Numbers in groups of seven bits, the most significant first. Of a number each byte but the last is a group and 128; the last one
-- is a group.
use Rattle.std.specs.Prelude.{ℕ, ◌+◌, ◌*◌, ◌/◌, ◌%◌, ◌^◌, nat_lt, List, [], ◌∷◌, if◌then◌else◌}
use Rattle.refute_check.specs.declared.number.Number.{Number}

-- what groups make up with one more, at the width of a word
unfoldable pub grown : ℕ → ℕ → ℕ
grown front byte = (front * 128 + byte % 128) % 2 ^ 64

-- the numbers that bytes are, where the groups before them make up `front`; groups without a last one are none
abbrev pub numbers_from : ℕ → List ℕ → List Number
numbers_from front [] = []
numbers_from front (b ∷ bs) = if nat_lt b 128 then (record { front = front; last = b } ∷ numbers_from 0 bs) else numbers_from (grown front b) bs

-- what the groups at the end of bytes make up that have no last one
abbrev pub begun : ℕ → List ℕ → ℕ
begun front [] = front
begun front (b ∷ bs) = if nat_lt b 128 then begun 0 bs else begun (grown front b) bs

-- a number of a word, in two parts
unfoldable pub whole : ℕ → Number
whole n = record { front = n / 128; last = n % 128 }

-- the number of a word that two parts are
unfoldable pub value : Number → ℕ
value n = (n.front * 128 + n.last) % 2 ^ 64
