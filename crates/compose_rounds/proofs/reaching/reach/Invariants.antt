use Rattle.std.proofs.Common.{◌≡◌, [], length}
use Rattle.std.specs.Prelude.{MatchOption, IsTrue}
use Rattle.svex_shape.specs.Shapes.{shape_at}
use Rattle.svex_arena.specs.Arenas.{Extends}
use Rattle.svex_arena.specs.Marks.{IsMarked}
use Rattle.node_replace.specs.Walks.{Keeps, Waits, is_variable, work_left}
use Rattle.compose_rounds.specs.Answers.{IsHolding}
use Rattle.compose_rounds.specs.Turns.{IsScene}
use Rattle.compose_rounds.proofs.reaching.reach.Given as goal

abbrev pub invariant-variables : goal.invariant-variables
invariant-variables l = record {
  scene : IsScene l.joins l.arena l.scene;
  hold : IsHolding l.joins l.arena l.scene.segments.eqs l.scene.nodes.items l.scene.settled.items l.replacer;
  next : MatchOption l.next (l.replacer.path.items ≡ []) (λ v. Waits l.replacer v × IsTrue (is_variable (shape_at l.arena v)));
  has : IsMarked l.replacer.marks.items l.fn.root;
  kept : Keeps l.fn.replacer.marks.items l.replacer.marks.items;
  size : length l.replacer.answers.items ≡ length l.fn.replacer.answers.items;
  extends : Extends l.fn.arena l.arena;
}

abbrev pub decreases-variables : goal.decreases-variables
decreases-variables l = work_left l.replacer
