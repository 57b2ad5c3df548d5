use Rattle.std.proofs.Common.{◌+◌, ◌<◌, length, Some, set, sym, subst, arith}
use Rattle.idx_list.specs.Order.{Order}
use Rattle.sat_state.specs.Queue.{IsQueue}
use Rattle.sat_state.proofs.Queues.{moved_open, moved_shut}
use Rattle.sat_state.proofs.queue.Queue.bump.Goals as goal

pub returns-then-is_open-clause-queue : goal.returns-then-is_open-clause-queue
returns-then-is_open-clause-queue c =
    let q = c.args.self.now in
    let lt : c.args.var < length c.args.values.now = omega (arith, c.if-var-values.false) in
    subst (λ (o : Order). IsQueue c.args.values.now o.items (set q.stamps.items c.args.var (q.clock + 1)) (q.clock + 1) (Some c.args.var)) (sym c.move_front.ensures)
    (moved_open c.args.values.now q.list.items q.stamps.items q.clock c.args.var q.next lt c.requires)

pub returns-else-is_open-clause-queue : goal.returns-else-is_open-clause-queue
returns-else-is_open-clause-queue c =
    let q = c.args.self.now in
    let lt : c.args.var < length c.args.values.now = omega (arith, c.if-var-values.false) in
    subst (λ (o : Order). IsQueue c.args.values.now o.items (set q.stamps.items c.args.var (q.clock + 1)) (q.clock + 1) q.next) (sym c.move_front.ensures)
    (moved_shut c.args.values.now q.list.items q.stamps.items q.clock c.args.var q.next lt c.if-is_open.ensures c.requires)
