use Rattle.std.proofs.Common.{◌≡◌, ◌+◌, ◌*◌, map, drop}
use Rattle.sv_hierarchy.specs.Scopes as m
use Rattle.sv_levels.specs.Library.{IsLibrary}
use Rattle.sv_levels.specs.Tasks.{child_is}
use Rattle.sv_walk.specs.Walks.{state_of}
use Rattle.sv_walk.proofs.walker.Walker.+child.Given as goal

abbrev pub decreases-below : goal.decreases-below
decreases-below l = 2 * l.deep + 1

abbrev pub decreases-child : goal.decreases-child
decreases-child l = 2 * l.deep

abbrev pub invariant-below-children : goal.invariant-below-children
invariant-below-children l =
    (all : m.Library) → IsLibrary l.library all →
    m.below (m.child l.deep all) (state_of l.fn.self l.fn.current) ≡ m.walk_all (m.child l.deep all) (map child_is (drop l.child-index l.child-items)) (state_of l.self l.current)
