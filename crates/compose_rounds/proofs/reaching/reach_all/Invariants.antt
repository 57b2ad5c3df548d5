use Rattle.std.proofs.Common.{◌≡◌, ℕ, ◌<◌, length, slice_index}
use Rattle.svex_arena.specs.Arenas.{Extends}
use Rattle.svex_arena.specs.Marks.{IsMarked}
use Rattle.compose_rounds.specs.Turns.{IsScene, IsMemoOf}
use Rattle.compose_rounds.proofs.reaching.reach_all.Given as goal

abbrev pub invariant-members : goal.invariant-members
invariant-members l = record {
  scene : IsScene l.joins l.arena l.scene;
  memo : IsMemoOf l.joins l.arena l.scene l.replacer;
  have : (j : ℕ) → j < l.at → IsMarked l.replacer.marks.items (slice_index l.scene.values.items (slice_index l.members j));
  size : length l.replacer.answers.items ≡ length l.fn.replacer.answers.items;
  extends : Extends l.fn.arena l.arena;
}
