use Rattle.std.proofs.Common.{◌≤◌, length, drop}
use Rattle.svex_arena.specs.Arenas.{Extends}
use Rattle.sv_stores.specs.Starting.{Triggers}
use Rattle.sv_stores.proofs.start.trigger.Given as goal

abbrev pub invariant-edges : goal.invariant-edges
invariant-edges l = record {
  stays : Extends l.fn.arena l.arena;
  within : l.at ≤ length l.edges;
  told : Triggers l.arena (drop l.at l.edges) l.node;
}

abbrev pub decreases-edges : goal.decreases-edges
decreases-edges l = l.at
