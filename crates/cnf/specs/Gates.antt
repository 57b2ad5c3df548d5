-- The clauses of a graph and a literal (Tseitin's encoding). Variable k is node k.
use Rattle.std.specs.Prelude.{◌≡◌, ℕ, zero, suc, ◌<◌, ◌↔◌, Bool, true, List, [], ◌∷◌, ◌++◌, length, slice_index_or, false}
use Rattle.aig.specs.declared.gate.Lit.{Lit}
use Rattle.aig.specs.declared.gate.Gate.{Gate}
use Rattle.aig.specs.declared.gate.Gate.TheVariants.{False, Input, And}
use Rattle.aig.specs.Graph.{gate_at, holds, Obeys, value}
use Rattle.cnf.specs.declared.Dim.{Dim}
use Rattle.cnf.specs.Clauses.{negate, Solves}

abbrev pub dim : Lit → Dim
dim l = record { var = l.node; negated = l.negated }

abbrev pub node : ℕ → Dim
node k = record { var = k; negated = false }

-- that node k is what its gate says
abbrev pub gate_clauses : ℕ → Gate → List (List Dim)
gate_clauses k False = []
gate_clauses k (Input n) = []
gate_clauses k (And p q) =
    (negate (node k) ∷ dim p ∷ []) ∷ (negate (node k) ∷ dim q ∷ []) ∷ (node k ∷ negate (dim p) ∷ negate (dim q) ∷ []) ∷ []

-- the clauses of node 0 and of the first n gates
unfoldable pub clauses_to : List Gate → ℕ → List (List Dim)
clauses_to gates zero = (negate (node 0) ∷ []) ∷ []
clauses_to gates (suc n) = clauses_to gates n ++ gate_clauses n (gate_at gates n)

-- node 0 is false, each gate holds, and the literal is true
abbrev pub clauses_for : List Gate → Lit → List (List Dim)
clauses_for gates root = clauses_to gates (length gates) ++ (dim root ∷ []) ∷ []

-- The solutions are the values that obey the gates and make the literal true.
abbrev pub AsksFor : List Gate → Lit → List (List Dim) → Type 0
AsksFor gates root clauses = (v : ℕ → Bool) → Solves v clauses ↔ (Obeys v gates × (holds v root ≡ true))

-- the value that an input has
abbrev pub Reads : List Bool → Bool → Gate → Type 0
Reads inputs b False = Unit {0}
Reads inputs b (Input n) = b ≡ slice_index_or inputs n false
Reads inputs b (And p q) = Unit {0}

-- the inputs have these values
abbrev pub Extends : List Bool → List Gate → (ℕ → Bool) → Type 0
Extends inputs gates v = (k : ℕ) → k < length gates → Reads inputs (v k) (gate_at gates k)

-- The values of the inputs extend to a solution exactly where they make the literal true.
abbrev pub AnswersAll : List Gate → Lit → List (List Dim) → Type 0
AnswersAll gates root clauses = (inputs : List Bool) → (value inputs gates root ≡ true) ↔ ((v : ℕ → Bool) × Solves v clauses × Extends inputs gates v)
