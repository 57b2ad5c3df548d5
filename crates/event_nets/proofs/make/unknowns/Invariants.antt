use Rattle.std.proofs.Common.{◌≡◌, length, map, take}
use Rattle.event_nets.proofs.make.unknowns.Given as goal

abbrev pub invariant-loop-width : goal.invariant-loop-width
invariant-loop-width l = map (λ row. length row) l.values.items ≡ take l.width-index l.widths
