use Rattle.std.proofs.Common.{◌≡◌, take}
use Rattle.std.specs.Prelude.{vec_capacity}
use Rattle.node_memo.specs.Walks.{AreDropped}
use Rattle.node_memo.proofs.memo.drop_all.Given as goal

abbrev pub invariant-loop-node : goal.invariant-loop-node
invariant-loop-node l = record {
  dropped : AreDropped (take l.node-index l.nodes) l.initial.fresh.items l.initial.stale.items l.fresh.items l.stale.items;
  room : vec_capacity l.stale ≡ vec_capacity l.initial.stale;
}
