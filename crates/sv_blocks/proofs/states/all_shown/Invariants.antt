use Rattle.svex_arena.specs.Arenas.{Extends}
use Rattle.sv_blocks.proofs.Merging.{ShowsSome}
use Rattle.sv_blocks.proofs.states.all_shown.Given as goal

abbrev pub invariant-nodes : goal.invariant-nodes
invariant-nodes l = record {
  stays : Extends l.fn.arena l.arena;
  made : ShowsSome l.scene l.arena l.nodes l.seen l.at;
}
