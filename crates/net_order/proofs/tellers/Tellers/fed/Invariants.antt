use Rattle.std.proofs.Common.{take}
use Rattle.net_order.specs.Rows.{IsFed}
use Rattle.net_order.proofs.tellers.Tellers.fed.Given as goal

abbrev pub invariant-of : goal.invariant-of
invariant-of l = IsFed l.self.segs.items l.nodes (take l.seg-index l.of) l.row.items
