use Rattle.std.proofs.Common.{map, take}
use Rattle.sv_hierarchy.specs.Scopes.{work_at}
use Rattle.sv_scope.specs.Scoped.{levels_of, wires_of, turns_of}
use Rattle.sv_levels.specs.Tasks.{work_is}
use Rattle.sv_elab.specs.Working.{IsMade}
use Rattle.sv_elab.proofs.whole.flattened.Given as goal

abbrev pub invariant-works : goal.invariant-works
invariant-works l = IsMade (wires_of l.scopes) (map (λ w. work_at (levels_of l.scopes) (work_is w)) (take l.work-index l.work-items)) (turns_of l.scopes) l.making
