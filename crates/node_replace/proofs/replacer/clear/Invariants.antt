use Rattle.std.proofs.Common.{◌≡◌, ℕ, ◌<◌, false, length, slice_index, slice_index_or}
use Rattle.svex_arena.specs.Marks.{IsMarked}
use Rattle.node_replace.proofs.replacer.clear.Given as goal

abbrev pub invariant-nodes : goal.invariant-nodes
invariant-nodes l = record {
  size : length l.marks.items ≡ length l.initial.marks.items;
  none : (j : ℕ) → j < l.at → slice_index_or l.marks.items (slice_index l.nodes j) false ≡ false;
  was : (k : ℕ) → IsMarked l.marks.items k → IsMarked l.initial.marks.items k;
}
