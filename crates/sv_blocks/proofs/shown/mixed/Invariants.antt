use Rattle.std.proofs.Common.{◌≤◌, ◌-◌}
use Rattle.svex_arena.specs.Arenas.{Extends}
use Rattle.sv_blocks.specs.Sides.{Mixes}
use Rattle.sv_blocks.proofs.shown.mixed.Given as goal

abbrev pub invariant-runs : goal.invariant-runs
invariant-runs l = record {
  stays : Extends l.fn.arena l.arena;
  within : l.from ≤ l.width;
  made : Mixes l.marks l.at l.fn.arena l.arena l.stored l.now l.from l.whole;
}

abbrev pub decreases-runs : goal.decreases-runs
decreases-runs l = l.width - l.from
