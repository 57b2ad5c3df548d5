use Rattle.std.proofs.Common.{◌≡◌, ℕ, ◌<◌, ◌≤◌, ◌++◌, ◌∷◌, [], false, true, length, map, reverse, get_or, sym, ap, ◌∙◌, subst, arith}
use Rattle.std.proofs.lemmas.Result.{on_ok_weaker}
use Rattle.svex_shape.specs.Shapes.{shape_at}
use Rattle.flat_print.specs.Printed.{below_node, children_of}
use Rattle.flat_print.specs.Walks.{node_of, finish, work_left}
use Rattle.flat_print.specs.declared.visits.Visit.{Visit}
use Rattle.flat_print.specs.declared.visits.Visit.TheVariants.{Enter, Leave}
use Rattle.flat_print.proofs.Stacks.{each_last}
use Rattle.flat_print.proofs.Walking.{at_visit, same_walk, mark_read, skips, skip_goes, enters, enter_goes, enter_less, leaves, leave_goes}
use Rattle.flat_print.proofs.visits.Walk.visit.Goals as goal

pub returns-then-index-clause-walk : goal.returns-then-index-clause-walk
returns-then-index-clause-walk c = skips _ _ _ _ _ c.in-Enter.node (at_visit _ _ _ _ _ _ _ c.in-Enter.is c.requires)

pub returns-then-index-clause-goes : goal.returns-then-index-clause-goes
returns-then-index-clause-goes c =
    let s = c.args.self.now in
    let w = at_visit c.args.arena.now s.stack.items s.seen.items s.numbers.items s.order.items c.args.visit (Enter c.in-Enter.node) c.in-Enter.is c.requires in
    let inside : c.in-Enter.node < length c.args.arena.now = each_last (λ (v : Visit). node_of v < length c.args.arena.now) s.stack.items (Enter c.in-Enter.node) w.within in
    skip_goes _ _ _ _ _ c.in-Enter.node w (mark_read s.seen.items c.index.result c.in-Enter.node c.index-in-Enter.result.now true c.index-in-Enter.ensures c.index.ensures (omega (arith, w.marks)) c.if-index.true)
    ∙ ap (λ (v : Visit). finish (below_node c.args.arena.now) (s.stack.items ++ v ∷ []) s.order.items) (sym c.in-Enter.is)

pub enter-requires-clause-there : goal.enter-requires-clause-there
enter-requires-clause-there c =
    let s = c.args.self.now in
    let w = at_visit c.args.arena.now s.stack.items s.seen.items s.numbers.items s.order.items c.args.visit (Enter c.in-Enter.node) c.in-Enter.is c.requires in
    each_last (λ (v : Visit). node_of v < length c.args.arena.now) s.stack.items (Enter c.in-Enter.node) w.within

pub leave-requires : goal.leave-requires
leave-requires c =
    let s = c.args.self.now in
    let w = at_visit c.args.arena.now s.stack.items s.seen.items s.numbers.items s.order.items c.args.visit (Leave c.in-Leave.node) c.in-Leave.is c.requires in
    subst (λ (n : ℕ). c.in-Leave.node < n) (sym w.places) (each_last (λ (v : Visit). node_of v < length c.args.arena.now) s.stack.items (Leave c.in-Leave.node) w.within)

pub returns-else-index-clause-walk : goal.returns-else-index-clause-walk
returns-else-index-clause-walk c =
    let s = c.args.self.now in
    let w = at_visit c.args.arena.now s.stack.items s.seen.items s.numbers.items s.order.items c.args.visit (Enter c.in-Enter.node) c.in-Enter.is c.requires in
    let inside : c.in-Enter.node < length c.args.arena.now = each_last (λ (v : Visit). node_of v < length c.args.arena.now) s.stack.items (Enter c.in-Enter.node) w.within in
    let fresh : get_or s.seen.items c.in-Enter.node false ≡ false = mark_read s.seen.items c.index.result c.in-Enter.node c.index-in-Enter.result.now false c.index-in-Enter.ensures c.index.ensures (omega (arith, w.marks)) c.if-index.false in
    on_ok_weaker c.enter.result (λ e. same_walk _ _ _ _ _ _ _ _ _ e c.enter.ensures.marked (ap (λ v. v.items) c.enter.ensures.numbers) (ap (λ v. v.items) c.enter.ensures.order)
    (enters c.args.arena.now s.stack.items s.seen.items s.numbers.items s.order.items c.in-Enter.node w fresh c.enter.ensures.children)) c.enter.ensures.stack

pub returns-else-index-clause-goes : goal.returns-else-index-clause-goes
returns-else-index-clause-goes c =
    let s = c.args.self.now in
    let w = at_visit c.args.arena.now s.stack.items s.seen.items s.numbers.items s.order.items c.args.visit (Enter c.in-Enter.node) c.in-Enter.is c.requires in
    let inside : c.in-Enter.node < length c.args.arena.now = each_last (λ (v : Visit). node_of v < length c.args.arena.now) s.stack.items (Enter c.in-Enter.node) w.within in
    let fresh : get_or s.seen.items c.in-Enter.node false ≡ false = mark_read s.seen.items c.index.result c.in-Enter.node c.index-in-Enter.result.now false c.index-in-Enter.ensures c.index.ensures (omega (arith, w.marks)) c.if-index.false in
    on_ok_weaker c.enter.result (λ e.
    ap (λ t. finish (below_node c.args.arena.now) t c.enter.new.self.order.items) e ∙ ap (λ v. finish (below_node c.args.arena.now) ((s.stack.items ++ Leave c.in-Enter.node ∷ []) ++ map Enter (reverse (children_of (shape_at c.args.arena.now c.in-Enter.node)))) v.items) c.enter.ensures.order
    ∙ enter_goes c.args.arena.now s.stack.items s.seen.items s.numbers.items s.order.items c.in-Enter.node w fresh c.enter.ensures.children
    ∙ ap (λ (v : Visit). finish (below_node c.args.arena.now) (s.stack.items ++ v ∷ []) s.order.items) (sym c.in-Enter.is)) c.enter.ensures.stack

pub returns-else-index-clause-less : goal.returns-else-index-clause-less
returns-else-index-clause-less c =
    let s = c.args.self.now in
    let w = at_visit c.args.arena.now s.stack.items s.seen.items s.numbers.items s.order.items c.args.visit (Enter c.in-Enter.node) c.in-Enter.is c.requires in
    let inside : c.in-Enter.node < length c.args.arena.now = each_last (λ (v : Visit). node_of v < length c.args.arena.now) s.stack.items (Enter c.in-Enter.node) w.within in
    let fresh : get_or s.seen.items c.in-Enter.node false ≡ false = mark_read s.seen.items c.index.result c.in-Enter.node c.index-in-Enter.result.now false c.index-in-Enter.ensures c.index.ensures (omega (arith, w.marks)) c.if-index.false in
    on_ok_weaker c.enter.result (λ e.
    subst (λ t. work_left c.enter.new.self.seen.items t ≤ work_left s.seen.items s.stack.items) (sym e) (subst (λ m. work_left m ((s.stack.items ++ Leave c.in-Enter.node ∷ []) ++ map Enter (reverse (children_of (shape_at c.args.arena.now c.in-Enter.node)))) ≤ work_left s.seen.items s.stack.items) (sym c.enter.ensures.marked)
    (enter_less c.args.arena.now s.stack.items s.seen.items s.numbers.items s.order.items c.in-Enter.node w fresh))) c.enter.ensures.stack

pub returns-in-Leave-clause-walk : goal.returns-in-Leave-clause-walk
returns-in-Leave-clause-walk c =
    let s = c.args.self.now in
    let w = at_visit c.args.arena.now s.stack.items s.seen.items s.numbers.items s.order.items c.args.visit (Leave c.in-Leave.node) c.in-Leave.is c.requires in
    on_ok_weaker c.leave.result (λ e. same_walk _ _ _ _ _ _ _ _ _ (ap (λ v. v.items) c.leave.ensures.stack) (ap (λ v. v.items) c.leave.ensures.marked) c.leave.ensures.numbers e
    (leaves c.args.arena.now s.stack.items s.seen.items s.numbers.items s.order.items c.in-Leave.node w)) c.leave.ensures.order

pub returns-in-Leave-clause-goes : goal.returns-in-Leave-clause-goes
returns-in-Leave-clause-goes c =
    let s = c.args.self.now in
    on_ok_weaker c.leave.result (λ e.
    ap (λ t. finish (below_node c.args.arena.now) c.leave.new.self.stack.items t) e ∙ ap (λ v. finish (below_node c.args.arena.now) v.items (s.order.items ++ c.in-Leave.node ∷ [])) c.leave.ensures.stack
    ∙ leave_goes c.args.arena.now s.stack.items s.order.items c.in-Leave.node
    ∙ ap (λ (v : Visit). finish (below_node c.args.arena.now) (s.stack.items ++ v ∷ []) s.order.items) (sym c.in-Leave.is)) c.leave.ensures.order
