use Rattle.std.proofs.Common.{◌≡◌, ℕ, [], get_or, take}
use Rattle.std.specs.Prelude.{All, Contains}
use Rattle.node_memo.specs.Memos.{rows_in}
use Rattle.event_sim.specs.Queues.{StayWaiting}
use Rattle.event_sim.proofs.queue.wake_takers.Given as goal

abbrev pub invariant-loop-node : goal.invariant-loop-node
invariant-loop-node l = record {
  woken : (k : ℕ) → Contains (take l.node-index l.nodes) k → All (Contains l.waiting.items) (get_or (rows_in l.takers) k []);
  kept : StayWaiting l.initial.waiting.items l.waiting.items;
  room : l.waiting.room ≡ l.initial.waiting.room;
}
