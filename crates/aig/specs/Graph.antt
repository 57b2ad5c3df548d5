-- And-inverter graphs, the values of their nodes, and how a graph grows. A graph is the list of its gates.
use Rattle.std.specs.Prelude.{◌≡◌, ℕ, zero, suc, ◌<◌, ◌≤◌, Bool, true, false, not, ◌&&◌, ◌==◌, nat_lt, if◌then◌else◌, List, [], ◌∷◌, length, take, slice_index_or}
use Rattle.aig.specs.declared.gate.Lit.{Lit}
use Rattle.aig.specs.declared.gate.Gate.{Gate}
use Rattle.aig.specs.declared.gate.Gate.TheVariants.{False, Input, And}

abbrev pub gate_at : List Gate → ℕ → Gate
gate_at gates k = slice_index_or gates k False

abbrev pub negation : Lit → Lit
negation l = record { node = l.node; negated = not l.negated }

-- the literal that has this value under all values of the inputs
abbrev pub constant_lit : Bool → Lit
constant_lit b = record { node = 0; negated = b }

-- the literal's node is in the graph
abbrev pub IsIn : List Gate → Lit → Type 0
IsIn gates l = l.node < length gates

-- ---- values

-- whether a literal is true where the nodes have these values
abbrev pub holds : (ℕ → Bool) → Lit → Bool
holds v l = if l.negated then not (v l.node) else v l.node

-- the value of a gate, by the values of the inputs and of the nodes before it; an input past the list is false
abbrev pub gate_value : List Bool → (ℕ → Bool) → Gate → Bool
gate_value inputs v False = false
gate_value inputs v (Input n) = slice_index_or inputs n false
gate_value inputs v (And p q) = holds v p && holds v q

-- the values of the first n nodes, by recursion on the node
unfoldable pub values_to : List Bool → List Gate → ℕ → ℕ → Bool
values_to inputs gates zero = λ k. false
values_to inputs gates (suc n) = λ k. if k == n then gate_value inputs (values_to inputs gates n) (gate_at gates n) else values_to inputs gates n k

-- the values of all nodes
abbrev pub values : List Bool → List Gate → ℕ → Bool
values inputs gates = values_to inputs gates (length gates)

-- the value of a literal
abbrev pub value : List Bool → List Gate → Lit → Bool
value inputs gates l = holds (values inputs gates) l

-- what a gate says of the value of its node k
abbrev pub Says : (ℕ → Bool) → ℕ → Gate → Type 0
Says v k False = v k ≡ false
Says v k (Input n) = Unit {0}
Says v k (And p q) = v k ≡ (holds v p && holds v q)

-- The nodes' values obey the gates, for some values of the inputs.
pub record Obeys (v : ℕ → Bool) (gates : List Gate) : Type 0 where
  pub bottom : v 0 ≡ false
  pub each : (k : ℕ) → k < length gates → Says v k (gate_at gates k)

-- ---- shape

unfoldable pub count_inputs : List Gate → ℕ
count_inputs [] = 0
count_inputs (Input n ∷ gates) = suc (count_inputs gates)
count_inputs (False ∷ gates) = count_inputs gates
count_inputs (And p q ∷ gates) = count_inputs gates

-- whether the gate may stand at node k, after so many inputs
abbrev pub is_placed : ℕ → ℕ → Gate → Bool
is_placed k inputs False = k == 0
is_placed k inputs (Input n) = n == inputs
is_placed k inputs (And p q) = nat_lt p.node k && nat_lt q.node k

-- Node 0 is False and no other, operands name earlier nodes, and inputs are numbered in order.
pub record IsGraph (gates : List Gate) : Type 0 where
  pub some : 0 < length gates
  pub bottom : gate_at gates 0 ≡ False
  pub each : (k : ℕ) → k < length gates → is_placed k (count_inputs (take k gates)) (gate_at gates k) ≡ true

-- P holds in a graph whatever the inputs are: of all values of the nodes that obey the gates, and so of the values that any
-- inputs give.
pub record Always (gates : List Gate) (P : (ℕ → Bool) → Type 0) : Type 0 where
  pub graph : IsGraph gates
  pub obeyed : (v : ℕ → Bool) → Obeys v gates → P v
  pub at_inputs : (inputs : List Bool) → P (values inputs gates)

-- ---- growth

-- The nodes that there were keep their numbers and gates, and the new ones are no inputs.
pub record Grows (old : List Gate) (new : List Gate) : Type 0 where
  pub longer : length old ≤ length new
  pub same : (k : ℕ) → k < length old → gate_at new k ≡ gate_at old k
  pub inputs : count_inputs new ≡ count_inputs old

-- the literals that there were keep their values
abbrev pub KeepsValues : List Gate → List Gate → Type 0
KeepsValues old new = (inputs : List Bool) (l : Lit) → IsIn old l → value inputs new l ≡ value inputs old l
