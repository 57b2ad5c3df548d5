use Rattle.std.proofs.Common.{◌≡◌, ℕ, ◌<◌, [], get_or, length}
use Rattle.std.specs.Prelude.{Contains}
use Rattle.node_memo.specs.Memos.{rows_in}
use Rattle.event_sim.specs.Linked.{ArePresent}
use Rattle.event_sim.proofs.links.put_nodes.Given as goal

abbrev pub invariant-loop-node : goal.invariant-loop-node
invariant-loop-node l = record {
  len : length l.present ≡ length l.initial.present;
  inside : (wire k : ℕ) → Contains (get_or (rows_in l.present) wire []) k → k < l.node;
  present : ArePresent l.arena l.node (rows_in l.present);
}
