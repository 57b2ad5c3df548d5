use Rattle.std.proofs.Common.{◌≡◌, ℕ, ◌<◌, length, false}
use Rattle.node_memo.specs.Memos.{is_fresh}
use Rattle.node_memo.proofs.memo.clear_marks.Given as goal

abbrev pub invariant-loop-node : goal.invariant-loop-node
invariant-loop-node l = record {
  len : length l.fresh.items ≡ length l.initial.fresh.items;
  none : (k : ℕ) → k < l.node → is_fresh l.fresh.items k ≡ false;
}
