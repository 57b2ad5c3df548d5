use Rattle.std.proofs.Common.{◌≡◌, drop}
use Rattle.sv_hierarchy.specs.Scopes.{add_assignment, walk_all}
use Rattle.sv_walk.specs.Walks.{state_of}
use Rattle.sv_walk.proofs.walker.Walker.add_assignments.Given as goal

abbrev pub invariant-list : goal.invariant-list
invariant-list l = walk_all add_assignment l.list (state_of l.fn.self l.fn.current) ≡ walk_all add_assignment (drop l.pair-index l.list) (state_of l.self l.current)
