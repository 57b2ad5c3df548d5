-- Exclusive ors, and what is known of those that were made.
use Rattle.std.specs.Prelude.{◌≡◌, ℕ, ◌<◌, Bool, List, length}
use Rattle.std.specs.List.{All}
use Rattle.aig.specs.declared.gate.Lit.{Lit}
use Rattle.aig.specs.declared.gate.Gate.{Gate}
use Rattle.aig.specs.Graph.{holds, Always, Obeys}
use Rattle.xor_forms.specs.Forms.{Entry, AreForms}
pub use Rattle.xor_forms.specs.Forms.{differ, value_of}

-- c is true exactly where the two differ
abbrev pub IsDifference : List Gate → Lit → Lit → Lit → Type 0
IsDifference gates a b c = Always gates (λ v. holds v c ≡ differ (holds v a) (holds v b))

-- Nodes of the graph that are known to be forms are so under all values that obey it.
pub record AreSummed (gates : List Gate) (sums : List Entry) : Type 0 where
  pub forms : (v : ℕ → Bool) → Obeys v gates → AreForms v sums
  pub within : All (λ e. e.node < length gates) sums
