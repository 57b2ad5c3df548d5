use Rattle.std.proofs.Common.{◌≡◌, take}
use Rattle.net_order.specs.Kept.{eqs_in}
use Rattle.net_order.proofs.groups.eqs_among.Given as goal

abbrev pub invariant-places : goal.invariant-places
invariant-places l = l.numbers.items ≡ eqs_in l.nodes (take l.place-index l.places)
