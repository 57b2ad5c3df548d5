use Rattle.std.proofs.Common.{◌≡◌, map, take, Some}
use Rattle.svtv_induct.proofs.signals.by_nodes.Given as goal

abbrev pub invariant-nodes : goal.invariant-nodes
invariant-nodes l = l.sampled.items ≡ map Some (take l.at l.nodes)
