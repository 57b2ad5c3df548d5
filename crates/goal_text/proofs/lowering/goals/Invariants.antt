use Rattle.std.proofs.Common.{◌≡◌, [], drop, take}
use Rattle.std.specs.List.{AllZip}
use Rattle.sv_names.specs.Names.{names_are}
use Rattle.sv_modules.specs.Naming.{Holds}
use Rattle.svex_arena.specs.Arenas.{Extends}
use Rattle.goal_text.specs.Faults.{goals_faults}
use Rattle.goal_text.specs.Nodes.{IsLowered}
use Rattle.goal_text.proofs.Judged.{names_of}
use Rattle.goal_text.proofs.lowering.goals.Given as goal

abbrev pub invariant-trees : goal.invariant-trees
invariant-trees l = record {
  stays : Extends l.fn.arena l.arena;
  used : Holds l.names (names_of (take l.tree-index l.trees));
  rest : goals_faults [] (names_are l.hyps) (names_are l.claims) l.trees
      ≡ goals_faults (names_of (take l.tree-index l.trees)) (names_are l.hyps) (names_are l.claims) (drop l.tree-index l.trees);
  found : AllZip (IsLowered (names_are l.hyps) (names_are l.claims) l.arena) (take l.tree-index l.trees) l.found;
}
