-- Vectors of known bits as words of literals, and the operators on numbers.
use Rattle.std.specs.Prelude.{◌≡◌, ℕ, Bool, true, List, length, map, nat_lt}
use Rattle.aig.specs.declared.gate.Lit.{Lit}
use Rattle.aig.specs.declared.gate.Gate.{Gate}
use Rattle.aig.specs.Graph.{holds, Obeys}
use Rattle.aig_words.specs.Words.{IsWord, differ, parity_of}
use Rattle.fourvec.specs.declared.Bit.{Bit}
use Rattle.fourvec.specs.Bits.{truth_bit, add_of, sub_of, mul_of, div_of, rem_of, sdiv_of, srem_of, lt_of, slt_of}
use Rattle.pair_words.specs.declared.pairs.Pair.{Pair}
use Rattle.pair_words.specs.declared.numbers.Number.{Number}
use Rattle.pair_words.specs.declared.numbers.Number.TheVariants.{Add, Sub, Mul, Div, Rem, Sdiv, Srem, Lt, Slt}

-- the vector of known bits that literals stand for
abbrev pub truths : (ℕ → Bool) → List Lit → List Bit
truths v word = map (λ l. truth_bit (holds v l)) word

-- the pair of a known bit
abbrev pub known_pair : Lit → Pair
known_pair l = record { up = l; low = l }

-- what an operator gives
abbrev pub number_value : Number → List Bit → List Bit → List Bit
number_value Add a b = add_of a b
number_value Sub a b = sub_of a b
number_value Mul a b = mul_of a b
number_value Div a b = div_of a b
number_value Rem a b = rem_of a b
number_value Sdiv a b = sdiv_of a b
number_value Srem a b = srem_of a b
number_value Lt a b = lt_of a b
number_value Slt a b = slt_of a b

-- how wide that is, by the width of the operands
abbrev pub number_width : Number → ℕ → ℕ
number_width Lt width = 1
number_width Slt width = 1
number_width op width = width

-- whether it has known bits where the second number is this
abbrev pub is_defined : Number → ℕ → Bool
is_defined Div b = nat_lt 0 b
is_defined Rem b = nat_lt 0 b
is_defined Sdiv b = nat_lt 0 b
is_defined Srem b = nat_lt 0 b
is_defined op b = true

-- two words, each of as many literals as there are pairs: the sum modulo 2 of both words is that of the pairs' upper literals, whatever the
-- inputs are
pub record AreParts (gates : List Gate) (a : List Pair) (first second : List Lit) : Type 0 where
  pub first_word : IsWord gates (length a) first
  pub second_word : IsWord gates (length a) second
  pub value : (v : ℕ → Bool) → Obeys v gates → differ (parity_of v first) (parity_of v second) ≡ parity_of v (map (λ p. p.up) a)
