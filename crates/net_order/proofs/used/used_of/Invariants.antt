use Rattle.net_order.specs.Rows.{AreMarked}
use Rattle.net_order.proofs.used.used_of.Given as goal

abbrev pub invariant-nodes : goal.invariant-nodes
invariant-nodes l = AreMarked l.marks l.nodes.items l.places.items l.node
