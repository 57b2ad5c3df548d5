use Rattle.std.proofs.Common.{◌≡◌}
use Rattle.flat_print.specs.Printed.{below_node}
use Rattle.flat_print.specs.Walks.{IsWalk, finish, work_left}
use Rattle.flat_print.proofs.visits.Walk.run.Given as goal

abbrev pub invariant-visits : goal.invariant-visits
invariant-visits l = record {
  walk : IsWalk l.arena l.self.stack.items l.self.seen.items l.self.numbers.items l.self.order.items;
  goes : finish (below_node l.arena) l.self.stack.items l.self.order.items ≡ finish (below_node l.arena) l.initial.self.stack.items l.initial.self.order.items;
}

abbrev pub decreases-visits : goal.decreases-visits
decreases-visits l = work_left l.self.seen.items l.self.stack.items
