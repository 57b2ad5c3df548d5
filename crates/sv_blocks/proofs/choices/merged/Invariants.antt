use Rattle.svex_arena.specs.Arenas.{Extends}
use Rattle.sv_blocks.proofs.Merging.{Chooses}
use Rattle.sv_blocks.proofs.choices.merged.Given as goal

abbrev pub invariant-nodes : goal.invariant-nodes
invariant-nodes l = record {
  stays : Extends l.fn.arena l.arena;
  made : Chooses l.fn.arena l.arena l.truth l.a l.b l.nodes l.at;
}
