-- Which wires are overridden counts, and not in what list they stand.
use Rattle.std.proofs.Common.{◌≡◌, ℕ, suc, ◌++◌, refl, ap, ◌∙◌, subst, List, [], ◌∷◌, map, cond}
use Rattle.settling.specs.Settling.{Store, value_at, Contribution}
use Rattle.settling.specs.Overriding.{overridden}
use Rattle.sv_outside.specs.declared.text.Signal.{Signal}
use Rattle.driver_resolve.specs.Drivers.{drivers_give, stimuli_from, overriding_from, has_wire, wire_bits}
use Rattle.flat_net.specs.declared.flat.Flat.{Flat}
use Rattle.settling.specs.Least.{Giving, IsLeast}
use Rattle.flat_net.specs.Flats.{IsLeastSettling, links_of, given_in}

same-overriding : (n : ℕ) (all : List Signal) (a b : List ℕ) → ((k : ℕ) → has_wire a k ≡ has_wire b k) → (stim : Store) → overriding_from n all a stim ≡ overriding_from n all b stim
unfolding overriding_from
same-overriding n [] a b h stim = refl
same-overriding n (s ∷ all) a b h stim =
    ap (λ t. cond t (map {B = Contribution} (λ c. (c, value_at stim c)) (wire_bits n s.width)) [] ++ overriding_from (suc n) all a stim) (h n)
    ∙ ap (λ l. cond (has_wire b n) (map {B = Contribution} (λ c. (c, value_at stim c)) (wire_bits n s.width)) [] ++ l) (same-overriding (suc n) all a b h stim)

same_given : (flat : Flat) (a b : List ℕ) → ((k : ℕ) → has_wire a k ≡ has_wire b k) → (stim prev now : Store) → given_in flat a stim prev now ≡ given_in flat b stim prev now
same_given flat a b h stim prev now =
    ap (λ over. overridden (links_of flat.joins) over (drivers_give flat.arena flat.drivers (record { stim = stim; previous = prev; present = now }) ++ stimuli_from 0 flat.wires stim))
    (same-overriding 0 flat.wires a b h stim)

pub least_same : (flat : Flat) (a b : List ℕ) → ((k : ℕ) → has_wire a k ≡ has_wire b k) → (stim prev now : Store) → IsLeastSettling flat a stim prev now → IsLeastSettling flat b stim prev now
least_same flat a b h stim prev now is = subst (λ (g : Giving). IsLeast (links_of flat.joins) g now) (λ i s. same_given flat a b h stim prev s i) is
