use Rattle.std.proofs.Common.{◌≡◌, length, map}
use Rattle.svex_arena.specs.Arenas.{IsArena, Extends}
use Rattle.svex_compose.specs.Starting.{AreStarted}
use Rattle.svex_compose.proofs.start.start_nodes.Given as goal

abbrev pub invariant-eqs : goal.invariant-eqs
invariant-eqs l = record {
  extends : Extends l.fn.arena l.arena;
  arena : IsArena l.arena;
  len : length l.nodes.items ≡ l.at;
  started : AreStarted l.arena (map (λ e. e.seg) l.eqs) l.nodes.items (length l.nodes.items);
}
