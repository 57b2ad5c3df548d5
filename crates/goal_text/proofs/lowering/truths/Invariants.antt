use Rattle.std.proofs.Common.{◌≡◌, drop, take}
use Rattle.std.specs.List.{AllZip}
use Rattle.sv_names.specs.Names.{names_are}
use Rattle.svex_arena.specs.Arenas.{Extends}
use Rattle.goal_text.specs.Faults.{exprs_faults}
use Rattle.goal_text.specs.Nodes.{HasTruth}
use Rattle.goal_text.proofs.lowering.truths.Given as goal

abbrev pub invariant-exprs : goal.invariant-exprs
invariant-exprs l = record {
  stays : Extends l.fn.arena l.arena;
  rest : exprs_faults (names_are l.names) l.exprs ≡ exprs_faults (names_are l.names) (drop l.expr-index l.exprs);
  found : AllZip (HasTruth (names_are l.names) l.arena) (take l.expr-index l.exprs) l.nodes;
}
