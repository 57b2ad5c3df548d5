use Rattle.std.proofs.Common.{◌≡◌, ℕ, true, get_or, take}
use Rattle.std.specs.Prelude.{None}
use Rattle.event_nets.specs.Gifts.{has_gift}
use Rattle.event_sim.proofs.pass.clear.Given as goal

abbrev pub invariant-loop-gift : goal.invariant-loop-gift
invariant-loop-gift l = (place : ℕ) → has_gift (take l.gift-index l.gifts) place ≡ true → get_or l.told place None ≡ None
