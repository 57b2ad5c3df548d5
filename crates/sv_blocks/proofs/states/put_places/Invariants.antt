use Rattle.std.proofs.Common.{◌≡◌}
use Rattle.svex_arena.specs.Arenas.{Extends}
use Rattle.sv_stores.specs.Scenes.{IsState}
use Rattle.sv_blocks.specs.Overlays.{over}
use Rattle.sv_blocks.proofs.Overlaying.{PutSome}
use Rattle.sv_blocks.proofs.states.put_places.Given as goal

abbrev pub invariant-places : goal.invariant-places
invariant-places l = record {
  stays : Extends l.fn.arena l.arena;
  state : IsState l.scene l.arena l.state;
  same : over l.puts l.state.nodes ≡ over l.puts l.fn.state.nodes;
  kept : over l.kept l.state.nodes ≡ over l.fn.kept l.fn.state.nodes;
  made : PutSome l.puts l.places l.fn.state.nodes l.state.nodes l.at;
}
