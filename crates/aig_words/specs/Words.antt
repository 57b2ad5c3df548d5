-- Words of literals, the least significant first, and what a circuit promises.
use Rattle.std.specs.Prelude.{◌≡◌, ℕ, ◌+◌, ◌-◌, ◌*◌, ◌/◌, ◌%◌, ◌^◌, ◌<◌, ◌≤◌, Bool, true, false, not, ◌&&◌, ◌||◌, nat_lt, if◌then◌else◌, ℤ, pos, negsuc, List, [], ◌∷◌, length, replicate, take, drop, ◌++◌}
use Rattle.std.specs.List.{All}
use Rattle.aig.specs.declared.gate.Lit.{Lit}
use Rattle.aig.specs.declared.gate.Gate.{Gate}
use Rattle.aig.specs.Graph.{holds, constant_lit, Obeys, Grows, IsIn}
pub use Rattle.aig.specs.Sums.{differ}
use Rattle.aig_words.specs.declared.lists.Way.{Way}
use Rattle.aig_words.specs.declared.lists.Way.TheVariants.{Up, Down}

-- ---- words and numbers

abbrev pub weight : Bool → ℕ
weight false = 0
weight true = 1

-- the number that a word stands for where the nodes have these values
unfoldable pub number : (ℕ → Bool) → List Lit → ℕ
number v [] = 0
number v (l ∷ word) = weight (holds v l) + 2 * number v word

-- a word of this length over nodes of the graph
pub record IsWord (gates : List Gate) (width : ℕ) (word : List Lit) : Type 0 where
  pub long : length word ≡ width
  pub inside : All (IsIn gates) word

-- The graph has grown, by at most so many nodes, and by none where there was node 0 alone.
pub record Grew (most : ℕ) (old : List Gate) (new : List Gate) : Type 0 where
  pub grows : Grows old new
  pub nodes : length new ≤ length old + most
  pub flat : length old ≤ 1 → length new ≤ 1

-- P of all values of the nodes that obey the gates: what `Always` says of them
abbrev pub Obeyed : List Gate → ((ℕ → Bool) → Type 0) → Type 0
Obeyed gates P = (v : ℕ → Bool) → Obeys v gates → P v

-- whether an odd number of literals is true (parity)
unfoldable pub parity_of : (ℕ → Bool) → List Lit → Bool
parity_of v [] = false
parity_of v (l ∷ word) = differ (holds v l) (parity_of v word)

-- ---- two's complement

-- the number that two's complement of this width reads
abbrev pub signed : ℕ → ℕ → ℤ
signed width n = if nat_lt n (2 ^ (width - 1)) then pos n else negsuc (2 ^ width - 1 - n)

-- a number of this width with its bits moved down by k places, and zeros, or ones, for what comes in
abbrev pub moved_down_by : Bool → ℕ → ℕ → ℕ → ℕ
moved_down_by false width n k = n / 2 ^ k
moved_down_by true width n k = 2 ^ width - 1 - (2 ^ width - 1 - n) / 2 ^ k

-- the same with copies of the top bit for what comes in
abbrev pub sar_of : ℕ → ℕ → ℕ → ℕ
sar_of width n k = moved_down_by (not (nat_lt n (2 ^ (width - 1)))) width n k

-- ---- parts of circuits

-- one column of a sum
abbrev pub IsColumn : Lit → Lit → Lit → Lit → Lit → (ℕ → Bool) → Type 0
IsColumn a b c sum carry v =
    weight (holds v sum) + 2 * weight (holds v carry) ≡ weight (holds v a) + weight (holds v b) + weight (holds v c)

-- a sum with its carry
abbrev pub IsSum : List Lit → List Lit → Lit → List Lit → Lit → (ℕ → Bool) → Type 0
IsSum a b c sum carry v =
    number v sum + 2 ^ length a * weight (holds v carry) ≡ number v a + number v b + weight (holds v c)

-- whether words are equal, by the last pair and those before it
abbrev pub same_column : Bool → Bool → Bool → Bool
same_column a b last = last && not (differ a b)

-- whether words are in order, by the last pair and those before it
abbrev pub less_column : Bool → Bool → Bool → Bool
less_column a b last = (not a && b) || (last && not (a && not b))

-- every bit moved by k places, with what comes in
abbrev pub moved : Way → ℕ → List Lit → List Lit
moved Up k word = replicate k (constant_lit false) ++ take (length word - k) word
moved (Down fill) k word = drop k word ++ replicate k fill

-- what comes in is in the graph
abbrev pub FillsFrom : List Gate → Way → Type 0
FillsFrom gates Up = Unit {0}
FillsFrom gates (Down fill) = IsIn gates fill

-- what that makes of the number of a word of this width
abbrev pub shifted : (ℕ → Bool) → Way → ℕ → ℕ → ℕ → ℕ
shifted v Up width n k = (n * 2 ^ k) % 2 ^ width
shifted v (Down fill) width n k = moved_down_by (holds v fill) width n k

-- one turn of a division: with one more bit below the rest, the divisor is taken away where it goes in
abbrev pub IsTurn : Lit → List Lit → List Lit → Lit → List Lit → (ℕ → Bool) → Type 0
IsTurn bit rest b taken left v = number v rest < number v b →
    (weight (holds v bit) + 2 * number v rest ≡ weight (holds v taken) * number v b + number v left) × (number v left < number v b)

-- quotient and remainder, but for the divisor 0
abbrev pub IsDivided : List Lit → List Lit → List Lit → List Lit → (ℕ → Bool) → Type 0
IsDivided a b quotient rest v = 0 < number v b →
    (number v a ≡ number v quotient * number v b + number v rest) × (number v rest < number v b)
