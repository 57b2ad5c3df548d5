-- What is made at each place of two vectors.
use Rattle.std.specs.Prelude.{ℕ, Bool, List, if◌then◌else◌}
use Rattle.aig.specs.declared.gate.Gate.{Gate}
use Rattle.aig.specs.Graph.{holds, IsIn}
use Rattle.fourvec.specs.declared.Bit.{Bit}
use Rattle.fourvec.specs.declared.Bit.TheVariants.{Unknown}
use Rattle.fourvec.specs.Bits.{keep_bit}
use Rattle.pair_words.specs.declared.steps.Step.{Step}
use Rattle.pair_words.specs.declared.steps.Step.TheVariants.{Apply, Join, Pick, OrX, KeepBy}
use Rattle.pair_words.specs.Rails.{bit_at, IsWired, one_value, two_value, two_nodes}

-- the bit that it gives
abbrev pub step_value : (ℕ → Bool) → Step → Bit → Bit → Bit
step_value v (Apply op) a b = one_value op a
step_value v (Join op) a b = two_value op a b
step_value v (Pick c) a b = if holds v c then a else b
step_value v (OrX c) a b = if holds v c then a else Unknown
step_value v (KeepBy p) a b = keep_bit a (bit_at v p)

-- the most nodes that it takes
abbrev pub step_nodes : Step → ℕ
step_nodes (Apply op) = 2
step_nodes (Join op) = two_nodes op
step_nodes (Pick c) = 6
step_nodes (OrX c) = 2
step_nodes (KeepBy p) = 9

-- what it names is in the graph
abbrev pub StepIn : List Gate → Step → Type 0
StepIn gates (Apply op) = Unit {0}
StepIn gates (Join op) = Unit {0}
StepIn gates (Pick c) = IsIn gates c
StepIn gates (OrX c) = IsIn gates c
StepIn gates (KeepBy p) = IsWired gates p
