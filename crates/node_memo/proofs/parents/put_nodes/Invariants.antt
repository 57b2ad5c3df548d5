use Rattle.std.proofs.Common.{◌≡◌, ℕ, ◌<◌, [], get_or, length}
use Rattle.std.specs.Prelude.{Contains}
use Rattle.svex_shape.specs.Shapes.{OnChildren, shape_at}
use Rattle.node_memo.specs.Memos.{rows_in}
use Rattle.node_memo.proofs.parents.put_nodes.Given as goal

abbrev pub invariant-loop-node : goal.invariant-loop-node
invariant-loop-node l = record {
  len : length l.parents ≡ length l.arena;
  inside : (c k : ℕ) → Contains (get_or (rows_in l.parents) c []) k → k < l.node;
  parents : (k : ℕ) → k < l.node → OnChildren (λ c. Contains (get_or (rows_in l.parents) c []) k) (shape_at l.arena k);
}
