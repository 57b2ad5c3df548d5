use Rattle.std.proofs.Common.{◌≡◌, [], List, sym, ap, ◌∙◌, rules}
use Rattle.std.proofs.lemmas.List.{nil_from_length}
use Rattle.flat_print.specs.declared.visits.Visit.{Visit}
use Rattle.flat_print.specs.Printed.{below_node}
use Rattle.flat_print.specs.Walks.{finish}
use Rattle.flat_print.proofs.Stacks.{finish_none}
use Rattle.flat_print.proofs.visits.Walk.run.Goals as goal

pub returns-clause-order : goal.returns-clause-order
returns-clause-order c =
    let none : c.visits.self.stack.items ≡ [] = nil_from_length c.visits.self.stack.items (search rules) in
    sym (ap (λ (s : List Visit). finish (below_node c.args.arena.now) s c.visits.self.order.items) none ∙ finish_none (below_node c.args.arena.now) c.visits.self.order.items) ∙ c.visits.invariant.goes
