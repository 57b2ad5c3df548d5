use Rattle.std.proofs.Common.{◌≡◌, ℕ, false, eqb, get_or, take}
use Rattle.std.specs.List.{list_any}
use Rattle.event_nets.proofs.nets.mark_driven.Given as goal

abbrev pub invariant-loop-gift : goal.invariant-loop-gift
invariant-loop-gift l = (place : ℕ) → get_or l.driven place false ≡ list_any (λ g. eqb g.to place) (take l.gift-index l.gifts)
