use Rattle.std.proofs.Common.{◌≡◌, drop}
use Rattle.sv_hierarchy.specs.Scopes.{add_child, walk_all}
use Rattle.sv_walk.specs.Walks.{state_of}
use Rattle.sv_walk.proofs.walker.Walker.add_children.Given as goal

abbrev pub invariant-list : goal.invariant-list
invariant-list l = walk_all (add_child l.inst) l.one-items (state_of l.fn.self l.fn.current) ≡ walk_all (add_child l.inst) (drop l.one-index l.one-items) (state_of l.self l.current)
