use Rattle.svex_arena.specs.Marks.{HasRoots, OnlyRoots}
use Rattle.svex_arena.proofs.marks.mark_roots.Given as goal

abbrev pub invariant-loop-root : goal.invariant-loop-root
invariant-loop-root l = record {
  marked : HasRoots l.roots l.marks l.root-index;
  only : OnlyRoots l.roots l.marks;
}
