use Rattle.std.proofs.Common.{◌≡◌, false, take}
use Rattle.std.specs.Prelude.{All}
use Rattle.node_memo.specs.Memos.{IsMemo, is_fresh}
use Rattle.node_memo.specs.Memos.{rows_in}
use Rattle.event_sim.specs.Queues.{AreForgotten}
use Rattle.event_sim.proofs.queue.forget_wire.Given as goal

abbrev pub invariant-loop-node : goal.invariant-loop-node
invariant-loop-node l = record {
  memo : IsMemo l.arena l.memo;
  gone : All (λ k. is_fresh l.memo.fresh.items k ≡ false) (take l.node-index l.nodes);
  forgotten : AreForgotten (rows_in l.takers) l.initial.memo l.memo l.initial.waiting.items l.waiting.items;
  room : l.waiting.room ≡ l.initial.waiting.room;
}
