use Rattle.std.proofs.Common.{◌≤◌, ◌-◌}
use Rattle.svex_arena.specs.Arenas.{IsArena, Extends}
use Rattle.driver_resolve.specs.Drivers.{widths_of}
use Rattle.event_nets.specs.Needs.{gift_rows}
use Rattle.net_resolve.specs.Pieces.{IsMade, HasInRun, run_value}
use Rattle.net_resolve.proofs.pieces.run_node.Given as goal

abbrev pub invariant-pieces : goal.invariant-pieces
invariant-pieces l = record {
  arena : IsArena l.arena;
  extends : Extends l.fn.arena l.arena;
  most : l.at ≤ l.width;
  made : IsMade (widths_of l.wires) l.fn.arena (HasInRun (gift_rows l.rows) l.low l.at) l.at (run_value (widths_of l.wires) l.fn.arena (gift_rows l.rows) l.low l.at) l.arena l.node;
}

abbrev pub decreases-pieces : goal.decreases-pieces
decreases-pieces l = l.width - l.at
