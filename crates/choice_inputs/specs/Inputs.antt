-- Words of the inner functions: the values of inputs among those of all nodes.
use Rattle.std.specs.Prelude.{ℕ, zero, suc, Bool, List, [], ◌∷◌, ◌++◌}
use Rattle.aig.specs.declared.gate.Gate.{Gate}
use Rattle.aig.specs.declared.gate.Gate.TheVariants.{False, Input, And}
use Rattle.aig.specs.Graph.{gate_at}

-- the value of a node where it is an input
abbrev pub input_at : Gate → Bool → List Bool
input_at False b = []
input_at (Input n) b = b ∷ []
input_at (And p q) b = []

-- those of the first n nodes
unfoldable pub inputs_to : List Gate → (ℕ → Bool) → ℕ → List Bool
inputs_to gates v zero = []
inputs_to gates v (suc n) = inputs_to gates v n ++ input_at (gate_at gates n) (v n)
