use Rattle.std.proofs.Common.{◌≤◌, take}
use Rattle.std.specs.List.{Contains}
use Rattle.svex_arena.specs.Arenas.{IsArena, Extends}
use Rattle.driver_resolve.specs.Drivers.{widths_of}
use Rattle.net_resolve.specs.Pieces.{IsMade, row_value}
use Rattle.net_resolve.proofs.pieces.row_node.Given as goal

abbrev pub invariant-gifts : goal.invariant-gifts
invariant-gifts l = record {
  arena : IsArena l.arena;
  extends : Extends l.fn.arena l.arena;
  some : 1 ≤ l.at;
  made : IsMade (widths_of l.wires) l.fn.arena (Contains (take l.at l.row)) l.width (row_value (widths_of l.wires) l.fn.arena (take l.at l.row) l.width) l.arena l.node;
}
