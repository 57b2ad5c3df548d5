use Rattle.std.proofs.Common.{◌≡◌, length}
use Rattle.svex_arena.specs.Arenas.{Extends}
use Rattle.svex_arena.specs.Substs.{IsSubstituted}
use Rattle.svex_arena.proofs.subst.answer_all.Given as goal

abbrev pub invariant-loop-node : goal.invariant-loop-node
invariant-loop-node l = record {
  len : length l.done.items ≡ l._node;
  done : IsSubstituted l.len l.by l.arena l.marks l.done.items;
  extends : Extends l.initial.arena l.arena;
}
