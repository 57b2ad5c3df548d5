use Rattle.svex_arena.specs.Arenas.{Extends}
use Rattle.sv_stores.proofs.Starting.{StartsSome}
use Rattle.sv_stores.proofs.start.start_nodes.Given as goal

abbrev pub invariant-places : goal.invariant-places
invariant-places l = record {
  stays : Extends l.fn.arena l.arena;
  made : StartsSome l.scene l.arena l.nodes l.at;
}
