use Rattle.std.proofs.Common.{◌≤◌}
use Rattle.svex_arena.specs.Arenas.{IsArena, Extends}
use Rattle.node_replace.specs.Walks.{IsWalk, GoesOn, work_left}
use Rattle.node_replace.proofs.replacer.Replacer.next_variable.Given as goal

abbrev pub invariant-path : goal.invariant-path
invariant-path l = record {
  arena : IsArena l.arena;
  extends : Extends l.fn.arena l.arena;
  walk : IsWalk l.arena l.self;
  goes : GoesOn l.fn.arena l.fn.self l.arena l.self;
  work : work_left l.self ≤ work_left l.fn.self;
}

abbrev pub decreases-path : goal.decreases-path
decreases-path l = work_left l.self
