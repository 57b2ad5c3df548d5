use Rattle.std.proofs.Common.{◌≡◌, ◌+◌, ◌*◌, drop}
use Rattle.sv_hierarchy.specs.Scopes.{turn_walk, under, walk_all}
use Rattle.sv_walk.specs.Items.{items_walk}
use Rattle.sv_walk.specs.Walks.{state_of}
use Rattle.sv_walk.proofs.Sizes.{else_size, gen_size, item_size, list_size}
use Rattle.sv_walk.proofs.walker.Walker.+item.Given as goal

abbrev pub decreases-item : goal.decreases-item
decreases-item l = 2 * item_size l.item.now

abbrev pub decreases-items : goal.decreases-items
decreases-items l = 2 * list_size l.items.now + 1

abbrev pub decreases-turns : goal.decreases-turns
decreases-turns l = 2 * gen_size l.body.now + 1

abbrev pub decreases-turn : goal.decreases-turn
decreases-turn l = 2 * gen_size l.body.now

abbrev pub decreases-conditional : goal.decreases-conditional
decreases-conditional l = 2 * (gen_size l.body.now + else_size l.other.now) + 1

abbrev pub decreases-branch : goal.decreases-branch
decreases-branch l = 2 * gen_size l.body.now

abbrev pub invariant-turns-turns : goal.invariant-turns-turns
invariant-turns-turns l =
    walk_all (turn_walk l.place l.fn.opened.name l.variable.text (under l.body).body) l.fn.opened.values (state_of l.fn.self l.current)
    ≡ walk_all (turn_walk l.place l.fn.opened.name l.variable.text (under l.body).body) (drop l.bits-index l.bits-items) (state_of l.self l.current)

abbrev pub invariant-items-items : goal.invariant-items-items
invariant-items-items l = items_walk l.items (state_of l.fn.self l.fn.current) ≡ items_walk (drop l.item-index l.items) (state_of l.self l.current)
