use Rattle.std.proofs.Common.{◌≡◌, map, take}
use Rattle.svex_compose.proofs.start.values_of.Given as goal

abbrev pub invariant-eqs : goal.invariant-eqs
invariant-eqs l = l.values.items ≡ map (λ e. e.value) (take l.at l.eqs)
