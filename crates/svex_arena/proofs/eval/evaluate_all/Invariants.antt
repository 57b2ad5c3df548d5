use Rattle.std.proofs.Common.{◌≡◌, length}
use Rattle.svex_shape.specs.Values.{read}
use Rattle.svex_arena.specs.Evaluated.{IsEvaluated}
use Rattle.svex_arena.proofs.eval.evaluate_all.Given as goal

abbrev pub invariant-nodes : goal.invariant-nodes
invariant-nodes l = record {
  room : length l.done ≡ length l.marks;
  so_far : IsEvaluated (read l.env) l.shapes l.marks l.done l.node;
}
