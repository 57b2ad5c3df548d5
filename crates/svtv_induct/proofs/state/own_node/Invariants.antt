use Rattle.svex_arena.specs.Arenas.{IsArena, Extends}
use Rattle.svtv_unroll.specs.Unrolled.{vector_of}
use Rattle.svtv_induct.specs.States.{HasValue, own_bits}
use Rattle.svtv_induct.proofs.state.own_node.Given as goal

abbrev pub invariant-bits : goal.invariant-bits
invariant-bits l = record {
  made : HasValue l.vars l.arena l.at (λ choice. vector_of (own_bits l.first l.second choice) l.at) l.made;
  extends : Extends l.fn.arena l.arena;
  arena : IsArena l.arena;
}
