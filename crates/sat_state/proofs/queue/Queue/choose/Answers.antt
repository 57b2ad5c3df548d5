use Rattle.std.proofs.Common.{ℕ, Option, Some, ap, subst}
use Rattle.std.specs.Prelude.{is_some}
use Rattle.sat_state.specs.Queue.{IsQueue}
use Rattle.sat_state.proofs.Queues.{passed}
use Rattle.sat_state.proofs.queue.Queue.choose.Goals as goal

pub loop-self-smaller : goal.loop-self-smaller
loop-self-smaller c =
    let q = c.loop-self.self in
    let here : IsQueue c.args.values.now q.list.items q.stamps.items q.clock (Some c.in-Some.var) =
    subst (λ (o : Option ℕ). IsQueue c.args.values.now q.list.items q.stamps.items q.clock o) c.in-Some.is c.loop-self.invariant in
    let both = passed c.args.values.now q.list.items q.stamps.items q.clock c.in-Some.var c.next-self.result here c.if-is_open.ensures (λ e. c.next-self.ensures.last.0 (ap is_some e)) c.next-self.ensures.after in
    rw c.in-Some.is both.1

pub loop-self-preserved : goal.loop-self-preserved
loop-self-preserved c =
    let q = c.loop-self.self in
    let here : IsQueue c.args.values.now q.list.items q.stamps.items q.clock (Some c.in-Some.var) =
    subst (λ (o : Option ℕ). IsQueue c.args.values.now q.list.items q.stamps.items q.clock o) c.in-Some.is c.loop-self.invariant in
    (passed c.args.values.now q.list.items q.stamps.items q.clock c.in-Some.var c.next-self.result here c.if-is_open.ensures (λ e. c.next-self.ensures.last.0 (ap is_some e)) c.next-self.ensures.after).0
