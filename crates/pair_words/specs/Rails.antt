-- Bits and vectors as pairs of literals, and what they stand for under values of the nodes.
use Rattle.std.specs.Prelude.{◌≡◌, ℕ, Bool, List, length, map}
use Rattle.std.specs.List.{All}
use Rattle.aig.specs.declared.gate.Gate.{Gate}
use Rattle.aig.specs.Graph.{holds, IsIn}
use Rattle.fourvec.specs.declared.Bit.{Bit}
use Rattle.fourvec.specs.Bits.{bit_of, unfloat_bit, not_bit, and_bit, or_bit, xor_bit, res_bit, merge_bit, keep_bit}
use Rattle.pair_words.specs.declared.pairs.Pair.{Pair}
use Rattle.pair_words.specs.declared.pairs.One.{One}
use Rattle.pair_words.specs.declared.pairs.One.TheVariants.{Unfloat, Not}
use Rattle.pair_words.specs.declared.pairs.Two.{Two}
use Rattle.pair_words.specs.declared.pairs.Two.TheVariants.{And, Or, Xor, Res, Merge, Keep}

-- the bit that a pair stands for: 1 is (1,1), 0 is (0,0), X is (1,0) and Z is (0,1)
abbrev pub bit_at : (ℕ → Bool) → Pair → Bit
bit_at v p = bit_of (holds v p.up) (holds v p.low)

-- the vector that pairs stand for, the least significant first
abbrev pub bits : (ℕ → Bool) → List Pair → List Bit
bits v word = map (bit_at v) word

-- both literals are in the graph
pub record IsWired (gates : List Gate) (p : Pair) : Type 0 where
  pub up : IsIn gates p.up
  pub low : IsIn gates p.low

-- a vector of this width over nodes of the graph
pub record IsVector (gates : List Gate) (width : ℕ) (word : List Pair) : Type 0 where
  pub long : length word ≡ width
  pub inside : All (IsWired gates) word

-- an operator on one bit
abbrev pub one_value : One → Bit → Bit
one_value Unfloat a = unfloat_bit a
one_value Not a = not_bit a

-- an operator on two bits
abbrev pub two_value : Two → Bit → Bit → Bit
two_value And a b = and_bit a b
two_value Or a b = or_bit a b
two_value Xor a b = xor_bit a b
two_value Res a b = res_bit a b
two_value Merge a b = merge_bit a b
two_value Keep a b = keep_bit a b

-- the most nodes that an operator on two bits takes
abbrev pub two_nodes : Two → ℕ
two_nodes And = 6
two_nodes Or = 6
two_nodes Xor = 10
two_nodes Res = 2
two_nodes Merge = 11
two_nodes Keep = 9
