use Rattle.net_order.specs.Rows.{AreByWire}
use Rattle.net_order.proofs.tellers.lists_of.Given as goal

abbrev pub invariant-segs : goal.invariant-segs
invariant-segs l = AreByWire l.segs l.lists.items l.number
