use Rattle.std.proofs.Common.{◌≡◌, take}
use Rattle.net_order.specs.Rows.{values_in}
use Rattle.net_order.proofs.rows.values_of.Given as goal

abbrev pub invariant-eqs : goal.invariant-eqs
invariant-eqs l = l.values.items ≡ values_in (take l.eq-index l.eqs)
