use Rattle.std.proofs.Common.{◌≡◌, [], length}
use Rattle.std.specs.Prelude.{MatchOption, IsTrue}
use Rattle.svex_shape.specs.Shapes.{shape_at}
use Rattle.svex_arena.specs.Arenas.{IsArena, Extends}
use Rattle.svex_arena.specs.Marks.{IsMarked}
use Rattle.node_replace.specs.Walks.{IsWalk, Waits, is_variable, work_left}
use Rattle.node_replace.proofs.Replacing.{Replaces}
use Rattle.node_replace.proofs.replacer.Replacer.replace.Given as goal

abbrev pub invariant-variables : goal.invariant-variables
invariant-variables l = record {
  arena : IsArena l.arena;
  extends : Extends l.fn.arena l.arena;
  walk : IsWalk l.arena l.self;
  replaces : Replaces l.by l.fn.arena l.arena l.self;
  next : MatchOption l.next (l.self.path.items ≡ []) (λ v. Waits l.self v × IsTrue (is_variable (shape_at l.arena v)));
  has : IsMarked l.self.marks.items l.fn.root;
  size : length l.self.answers.items ≡ length l.fn.self.answers.items;
}

abbrev pub decreases-variables : goal.decreases-variables
decreases-variables l = work_left l.self
