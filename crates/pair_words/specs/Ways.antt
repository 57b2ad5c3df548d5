-- Constant bits, and bits that move.
use Rattle.std.specs.Prelude.{ℕ, ◌-◌, Bool, true, false, List, ◌++◌, length, take, drop, replicate}
use Rattle.aig.specs.declared.gate.Gate.{Gate}
use Rattle.aig.specs.Graph.{constant_lit}
use Rattle.fourvec.specs.declared.Bit.{Bit}
use Rattle.fourvec.specs.declared.Bit.TheVariants.{Zero, One, Unknown, Floating}
use Rattle.fourvec.specs.Bits.{moved_up, moved_down}
use Rattle.pair_words.specs.declared.pairs.Pair.{Pair}
use Rattle.pair_words.specs.declared.shifts.Way.{Way}
use Rattle.pair_words.specs.declared.shifts.Way.TheVariants.{Up, Down}
use Rattle.pair_words.specs.Rails.{bit_at, IsWired}

abbrev pub constants : Bool → Bool → Pair
constants up low = record { up = constant_lit up; low = constant_lit low }

-- the pair that stands for a bit under all values of the nodes
abbrev pub constant_pair : Bit → Pair
constant_pair Zero = constants false false
constant_pair One = constants true true
constant_pair Unknown = constants true false
constant_pair Floating = constants false true

-- every pair moved by k places, with 0 or a pair for what comes in
abbrev pub moved : Way → ℕ → List Pair → List Pair
moved Up k word = replicate k (constant_pair Zero) ++ take (length word - k) word
moved (Down fill) k word = drop k word ++ replicate k fill

-- what that makes of the bits
abbrev pub moved_bits : (ℕ → Bool) → Way → ℕ → List Bit → List Bit
moved_bits v Up k a = moved_up k a
moved_bits v (Down fill) k a = moved_down (bit_at v fill) k a

-- what comes in is in the graph
abbrev pub FillsFrom : List Gate → Way → Type 0
FillsFrom gates Up = Unit {0}
FillsFrom gates (Down fill) = IsWired gates fill
