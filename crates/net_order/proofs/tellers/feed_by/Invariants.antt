use Rattle.std.proofs.Common.{take}
use Rattle.net_order.specs.Rows.{IsFedBy}
use Rattle.net_order.proofs.tellers.feed_by.Given as goal

abbrev pub invariant-numbers : goal.invariant-numbers
invariant-numbers l = IsFedBy l.segs l.nodes l.seg (take l.number-index l.numbers) l.initial.row.items l.row.items
