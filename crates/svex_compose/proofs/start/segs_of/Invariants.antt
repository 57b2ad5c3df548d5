use Rattle.std.proofs.Common.{◌≡◌, map, take}
use Rattle.svex_compose.proofs.start.segs_of.Given as goal

abbrev pub invariant-eqs : goal.invariant-eqs
invariant-eqs l = l.segs.items ≡ map (λ e. e.seg) (take l.at l.eqs)
