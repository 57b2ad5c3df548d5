-- What a work contributes stands at bits that it reaches.
use Rattle.std.proofs.Common.{◌≡◌, ℕ, Bool, true, false, cond, List, [], ◌∷◌, map, Option, Some, None, refl, ap, subst, inl, inr, ◌⊎◌}
use Rattle.std.specs.Prelude.{Contains}
use Rattle.fourvec.specs.declared.Bit.{Bit}
use Rattle.lhs_alias.specs.declared.segs.WireBit.{WireBit}
use Rattle.settling.specs.Settling.{Store, Contribution, value_at}
use Rattle.sv_tree.specs.declared.exprs.Expr.{Expr}
use Rattle.sv_tree.specs.declared.design.Way.{Way}
use Rattle.sv_tree.specs.declared.design.Way.TheVariants as way
use Rattle.sv_meaning.specs.Layouts.{Layout, width, Scope, constant_scope}
use Rattle.sv_meaning.specs.Targets.{slots, present, assigned_targets}
use Rattle.sv_meaning.specs.Deeds.{deed}
use Rattle.sv_meaning.specs.Blocks.{distinct, manner, block_value}
use Rattle.sv_meaning.specs.Designs.{Work, assignment, block, port, gives, reaches, driven, wire_slots, bits_of_wire, port_gives, port_reaches, is_joined, index_scope, as_targets}
use Rattle.phase_fsm.proofs.Members.{nothing-in, in-cons, cons-head, cons-tail}

-- the list has only bits of the other
abbrev pub StandsAt : List Contribution → List WireBit → Type 0
StandsAt all bits = (c : Contribution) → Contains all c → Contains bits c.0

none-stands : (bits : List WireBit) → StandsAt [] bits
none-stands bits c h = absurd (nothing-in c h)

one-stands : (b : WireBit) (v : Bit) (all : List Contribution) (bits : List WireBit) → StandsAt all bits → StandsAt ((b, v) ∷ all) (b ∷ bits)
one-stands b v all bits h c k = pick (in-cons (b, v) all c k)
  where
    pick : (let first : Contribution = (b, v) in first ≡ c) ⊎ Contains all c → Contains (b ∷ bits) c.0
    pick (inl is) = cons-head b bits c.0 (ap (λ (x : Contribution). x.0) is)
    pick (inr later) = cons-tail b bits c.0 (h c later)

driven-stands : (to : List (Option WireBit)) (v : List Bit) → StandsAt (driven to v) (present to)
unfolding driven present
driven-stands [] [] = none-stands []
driven-stands [] (x ∷ v) = none-stands []
driven-stands (None ∷ to) [] = none-stands (present to)
driven-stands (None ∷ to) (x ∷ v) = driven-stands to v
driven-stands (Some b ∷ to) [] = none-stands (b ∷ present to)
driven-stands (Some b ∷ to) (x ∷ v) = one-stands b x (driven to v) (present to) (driven-stands to v)

all-present : (bits : List WireBit) → present (map Some bits) ≡ bits
unfolding present
all-present [] = refl
all-present (b ∷ bits) = ap (λ l. b ∷ l) (all-present bits)

stored-stands : (s : Store) (bits : List WireBit) → StandsAt (map (λ b. (b, value_at s b)) bits) bits
stored-stands s [] = none-stands []
stored-stands s (b ∷ bits) = one-stands b (value_at s b) (map (λ x. (x, value_at s x)) bits) bits (stored-stands s bits)

port-stands : (w : Way) (at : Scope) (n : ℕ) (x : Layout) (actual : Expr) (now : Store) → StandsAt (port_gives w at n x actual now) (port_reaches w at n x actual)
port-stands way.Input at n x actual now =
    let bits = bits_of_wire n 0 (width x) in
    subst (StandsAt (port_gives way.Input at n x actual now)) (all-present bits) (driven-stands (wire_slots n x) _)
port-stands way.Output at n x actual now = driven-stands (slots (as_targets (constant_scope at) at actual)) _
port-stands way.Inout at n x actual now = none-stands []

unless-stands : (b : Bool) (all : List Contribution) (bits : List WireBit) → StandsAt all bits → StandsAt (cond b [] all) (cond b [] bits)
unless-stands true all bits h = none-stands []
unless-stands false all bits h = h

pub work-stands : (w : Work) (prev now : Store) → StandsAt (gives w prev now) (reaches w)
work-stands (assignment at to x) prev now = driven-stands (slots (assigned_targets at to)) _
work-stands (block at b) prev now = stored-stands (block_value (manner at b) (deed b.body at) prev now) (distinct (deed b.body at).targets)
work-stands (port at w n x actual) prev now = unless-stands (is_joined (index_scope w at) at x actual) _ _ (port-stands w at n x actual now)
