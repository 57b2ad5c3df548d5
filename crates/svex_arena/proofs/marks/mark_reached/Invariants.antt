use Rattle.std.proofs.Common.{◌≤◌, length}
use Rattle.svex_arena.specs.Marks.{IsClosed, OnlyReached, Rises}
use Rattle.svex_arena.proofs.marks.mark_reached.Given as goal

abbrev pub invariant-nodes : goal.invariant-nodes
invariant-nodes l = record {
  within : l.node ≤ length l.marks;
  room : length l.marks ≤ length l.shapes;
  rises : Rises l.initial.marks l.marks;
  closed : IsClosed l.shapes l.marks l.node;
  only : OnlyReached l.shapes l.roots l.marks;
}

abbrev pub decreases-nodes : goal.decreases-nodes
decreases-nodes l = l.node
