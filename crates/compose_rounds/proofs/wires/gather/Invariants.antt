use Rattle.std.proofs.Common.{take, All}
use Rattle.lhs_alias.specs.Segs.{lhs_bits}
use Rattle.svex_arena.specs.Arenas.{IsArena, Extends}
use Rattle.compose_rounds.specs.Wires.{IsMade, AreThere, HasPart}
use Rattle.compose_rounds.proofs.wires.gather.Given as goal

abbrev pub invariant-pieces : goal.invariant-pieces
invariant-pieces l = record {
  extends : Extends l.fn.arena l.arena;
  arena : IsArena l.arena;
  there : AreThere l.arena l.nodes;
  has : All (HasPart l.arena l.nodes) l.pieces;
  made : IsMade l.fn.arena l.arena l.nodes (lhs_bits (take l.at l.pieces)) l.made;
}
