use Rattle.std.proofs.Common.{◌≡◌, ◌++◌, List, slice_index, length, map, reverse, ap, ◌∙◌}
use Rattle.driver_resolve.specs.declared.driver.Driver.{Driver}
use Rattle.flat_print.specs.declared.visits.Visit.{Visit}
use Rattle.flat_print.specs.declared.visits.Visit.TheVariants.{Enter}
use Rattle.flat_print.specs.Printed.{order_of, has, place_in}
use Rattle.flat_print.proofs.Walking.{begins, roots_within, ends}
use Rattle.flat_print.proofs.visits.order_of.Goals as goal

pub run-requires : goal.run-requires
run-requires c =
    let all = map (λ (d : Driver). d.value) c.args.drivers.now in
    begins c.args.arena.now all c.push_roots.new.stack.items c.in_ok-walk.walk.seen.items c.in_ok-walk.walk.numbers.items c.in_ok-walk.walk.order.items
    (c.in_ok-push_roots.ensures ∙ ap (λ (s : List Visit). s ++ map Enter (reverse all)) c.in_ok-walk.ensures.stack)
    (roots_within (length c.args.arena.now) c.args.drivers.now c.requires) (c.in_ok-walk.ensures.marks ∙ c.len.ensures.is) c.in_ok-walk.ensures.none (c.in_ok-walk.ensures.numbers ∙ c.len.ensures.is) c.in_ok-walk.ensures.order

pub returns-clause-nodes : goal.returns-clause-nodes
returns-clause-nodes c =
    let all = map (λ (d : Driver). d.value) c.args.drivers.now in
    ap (λ v. v.items) c.into_order.ensures.nodes
    ∙ ends c.args.arena.now all c.push_roots.new.stack.items c.in_ok-walk.walk.order.items c.run.new.self.order.items (c.in_ok-push_roots.ensures ∙ ap (λ (s : List Visit). s ++ map Enter (reverse all)) c.in_ok-walk.ensures.stack) c.in_ok-walk.ensures.order c.in_ok-run.ensures.order

pub returns-clause-numbers : goal.returns-clause-numbers
returns-clause-numbers c k h =
    let all = map (λ (d : Driver). d.value) c.args.drivers.now in
    let last : c.run.new.self.order.items ≡ order_of c.args.arena.now c.args.drivers.now =
    ends c.args.arena.now all c.push_roots.new.stack.items c.in_ok-walk.walk.order.items c.run.new.self.order.items (c.in_ok-push_roots.ensures ∙ ap (λ (s : List Visit). s ++ map Enter (reverse all)) c.in_ok-walk.ensures.stack) c.in_ok-walk.ensures.order c.in_ok-run.ensures.order in
    ap (λ v. slice_index v.items k) c.into_order.ensures.numbers ∙ c.in_ok-run.ensures.walk.numbered k (ap (λ l. has k l) last ∙ h) ∙ ap (λ l. place_in l k) last
