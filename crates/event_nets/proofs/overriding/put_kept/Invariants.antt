use Rattle.std.proofs.Common.{◌≡◌, not, false, ◌++◌, get_or, take}
use Rattle.std.specs.Prelude.{filter}
use Rattle.event_nets.proofs.overriding.put_kept.Given as goal

abbrev pub invariant-loop-gift : goal.invariant-loop-gift
invariant-loop-gift l = l.kept.items ≡ l.initial.kept.items ++ filter (λ g. not (get_or l.overridden g.to false)) (take l.gift-index l.gifts)
