use Rattle.std.proofs.Common.{length, take}
use Rattle.lhs_alias.specs.Segs.{lhs_bits}
use Rattle.svex_arena.specs.Arenas.{IsArena, Extends}
use Rattle.svtv_induct.specs.States.{HasParts, IsSized}
use Rattle.svtv_induct.proofs.state.joined_node.Given as goal

abbrev pub invariant-segs : goal.invariant-segs
invariant-segs l = record {
  made : HasParts l.fn.arena l.own (take l.at l.segs) l.arena l.made;
  sized : IsSized l.arena (length (lhs_bits (take l.at l.segs))) l.made;
  extends : Extends l.fn.arena l.arena;
  arena : IsArena l.arena;
}
