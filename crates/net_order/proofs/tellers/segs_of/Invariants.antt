use Rattle.std.proofs.Common.{◌≡◌, take}
use Rattle.net_order.specs.Rows.{segs_in}
use Rattle.net_order.proofs.tellers.segs_of.Given as goal

abbrev pub invariant-eqs : goal.invariant-eqs
invariant-eqs l = l.segs.items ≡ segs_in (take l.eq-index l.eqs)
