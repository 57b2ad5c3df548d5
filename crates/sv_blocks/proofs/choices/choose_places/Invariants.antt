use Rattle.std.proofs.Common.{length}
use Rattle.svex_arena.specs.Arenas.{Extends}
use Rattle.sv_blocks.specs.Sides.{ChosenAt}
use Rattle.sv_blocks.specs.Overlays.{over}
use Rattle.sv_blocks.proofs.Overlaying.{Walked}
use Rattle.sv_blocks.proofs.choices.choose_places.Given as goal

abbrev pub invariant-places : goal.invariant-places
invariant-places l = record {
  stays : Extends l.fn.arena l.arena;
  made : Walked (λ i. ChosenAt l.fn.arena l.arena l.truth (over l.a l.nodes) (over l.b l.nodes) (over l.both l.nodes) i) l.places l.at (length l.nodes);
}
