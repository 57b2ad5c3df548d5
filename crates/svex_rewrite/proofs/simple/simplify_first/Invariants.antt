use Rattle.std.proofs.Common.{◌≡◌, length}
use Rattle.svex_arena.specs.Arenas.{Extends}
use Rattle.svex_rewrite.specs.Meaning.{IsSimplified}
use Rattle.svex_rewrite.proofs.simple.simplify_first.Given as goal

abbrev pub invariant-loop-node : goal.invariant-loop-node
invariant-loop-node l = record {
  len : length l.done.items ≡ l._node;
  done : IsSimplified l.len l.arena l.marks l.done.items;
  extends : Extends l.initial.arena l.arena;
}
