use Rattle.std.proofs.Common.{◌≡◌, drop}
use Rattle.sv_types.specs.Values.{kind_is}
use Rattle.sv_hierarchy.specs.Scopes.{add_param_item, add_params, walk_all}
use Rattle.sv_walk.specs.Walks.{state_of}
use Rattle.sv_walk.proofs.walker.Walker.add_params.Given as goal

abbrev pub invariant-list : goal.invariant-list
invariant-list l = add_params l.tree (state_of l.fn.self l.fn.current) ≡ walk_all (add_param_item l.tree.word (kind_is l.kind)) (drop l.item-index l.item-items) (state_of l.self l.current)
