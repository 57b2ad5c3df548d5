-- How a conjunction is found by its operands: the hashes of gates, in the order of the nodes.
use Rattle.std.specs.Prelude.{◌≡◌, ℕ, ◌+◌, ◌*◌, ◌/◌, ◌%◌, ◌^◌, ◌<◌, ◌⊎◌, List, [], ◌∷◌, ◌++◌, length, map}
use Rattle.std.specs.Int.{from_bool}
use Rattle.aig.specs.declared.gate.Lit.{Lit}
use Rattle.aig.specs.declared.gate.Gate.{Gate}
use Rattle.aig.specs.declared.gate.Gate.TheVariants.{False, Input, And}
use Rattle.aig.specs.Graph.{gate_at, IsGraph, count_inputs}
use Rattle.aig.specs.Sums.{AreSummed}
use Rattle.xor_forms.specs.Forms.{Entry}

-- a number of 64 bits for a literal
unfoldable pub code_of : Lit → ℕ
code_of l = (l.node * 2 % 2 ^ 64 + from_bool l.negated) % 2 ^ 64

-- the upper half is brought into the lower
unfoldable pub folded : ℕ → ℕ
folded hash = (hash + hash / 2 ^ 32) % 2 ^ 64

-- the hash of two operands, each bit of which depends on both
unfoldable pub mixed : Lit → Lit → ℕ
mixed a b = folded (folded ((code_of a * 11400714819323198485 % 2 ^ 64 + code_of b) % 2 ^ 64) * 0x9e6c_63d0_876a_9a47 % 2 ^ 64)

-- the hash of a gate; inputs differ by their numbers
unfoldable pub hash_of : Gate → ℕ
hash_of False = 0
hash_of (Input n) = n
hash_of (And a b) = mixed a b

-- no node has the gate
pub record HasNone (gates : List Gate) (gate : Gate) : Type 0 where
  pub none : (k : ℕ) → gate_at gates k ≡ gate → ⊥

-- ---- what an `Aig` keeps

-- The lower operand of a conjunction stands first, none is constant, and no two conjunctions have the same operands.
pub record IsHashed (gates : List Gate) : Type 0 where
  pub some : (k : ℕ) (p q : Lit) → gate_at gates k ≡ And p q → 0 < p.node
  pub ordered : (k : ℕ) (p q : Lit) → gate_at gates k ≡ And p q → p.node < q.node
  pub apart : (j k : ℕ) (p q : Lit) → gate_at gates j ≡ And p q → gate_at gates k ≡ And p q → j ≡ k

-- a graph, and the hashes of its gates
pub record IsLinked (gates : List Gate) (hashes : List ℕ) : Type 0 where
  pub graph : IsGraph gates
  pub hashed : IsHashed gates
  pub indexed : hashes ≡ map hash_of gates

-- the same, with the number of inputs, and the exclusive ors that were made
pub record IsKept (inputs : ℕ) (gates : List Gate) (hashes : List ℕ) (sums : List Entry) : Type 0 where
  pub linked : IsLinked gates hashes
  pub counted : inputs ≡ count_inputs gates
  pub summed : AreSummed gates sums

-- node k is the conjunction of a and b: it was there, or it alone is new
pub record IsNodeOf (old : List Gate) (a b : Lit) (new : List Gate) (k : ℕ) : Type 0 where
  pub within : k < length new
  pub is : gate_at new k ≡ And a b
  pub grown : (new ≡ old) ⊎ ((new ≡ old ++ And a b ∷ []) × HasNone old (And a b))
