-- The conjunction of two literals, as a literal.
use Rattle.std.specs.Prelude.{◌≡◌, ℕ, ◌≤◌, ◌⊎◌, Bool, true, false, ◌&&◌, List, Option, Some, None}
use Rattle.aig.specs.declared.gate.Lit.{Lit}
use Rattle.aig.specs.declared.gate.Gate.{Gate}
use Rattle.aig.specs.declared.gate.Gate.TheVariants.{And}
use Rattle.aig.specs.Graph.{gate_at, negation, constant_lit, IsIn, holds, Always}

-- c is true exactly where both are
abbrev pub IsBoth : List Gate → Lit → Lit → Lit → Type 0
IsBoth gates a b c = Always gates (λ v. holds v c ≡ (holds v a && holds v b))

-- one operand is constant, or both have one node
abbrev pub NeedsNoGate : Lit → Lit → Type 0
NeedsNoGate a b = (a.node ≡ 0) ⊎ (b.node ≡ 0) ⊎ (a.node ≡ b.node)

-- The laws of Boolean algebra by which a conjunction needs no gate.
pub record IsSimplified (a b c : Lit) : Type 0 where
  pub identity_left : a ≡ constant_lit true → c ≡ b
  pub identity_right : b ≡ constant_lit true → c ≡ a
  pub annihilation_left : a ≡ constant_lit false → c ≡ constant_lit false
  pub annihilation_right : b ≡ constant_lit false → c ≡ constant_lit false
  pub idempotence : a ≡ b → c ≡ a
  pub complement : b ≡ negation a → c ≡ constant_lit false

-- c is the conjunction, made without a gate
pub record IsMadePlain (a b c : Lit) : Type 0 where
  pub needs_none : NeedsNoGate a b
  pub within : (c.node ≤ a.node) ⊎ (c.node ≤ b.node)
  pub simplified : IsSimplified a b c
  pub value : (v : ℕ → Bool) → v 0 ≡ false → holds v c ≡ (holds v a && holds v b)

-- what is known of the conjunction of two literals without looking at gates
abbrev pub IsPlain : Lit → Lit → Option Lit → Type 0
IsPlain a b None = ¬ NeedsNoGate a b
IsPlain a b (Some c) = IsMadePlain a b c

-- c is a node that is the conjunction of the two, in either order
pub record IsGateOf (gates : List Gate) (a b c : Lit) : Type 0 where
  pub within : IsIn gates c
  pub plain : c.negated ≡ false
  pub operands : (gate_at gates c.node ≡ And a b) ⊎ (gate_at gates c.node ≡ And b a)
