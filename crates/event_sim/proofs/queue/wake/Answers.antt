use Rattle.std.proofs.Common.{ℕ, ◌+◌, ◌<◌, List, length, take, sym, ap, ◌∙◌, subst, arith}
use Rattle.idx_list.specs.Order.{Order}
use Rattle.event_sim.specs.Queues.{IsWoken}
use Rattle.event_sim.proofs.Queueing.{woken-had, woken-put}
use Rattle.event_sim.proofs.queue.wake.Goals as goal
use Rattle.event_sim.proofs.queue.wake.Goals.{then-not-has, else-not-has}

pub loop-low-preserved : goal.loop-low-preserved
loop-low-preserved c =
    let lows = c.args.lows.now in
    let i = c.loop-low.low-index in
    let old = c.args.waiting.now.items in
    let now = c.loop-low.waiting.items in
    let new = c.if-not-has.waiting.items in
    let lt : i < length lows = omega arith in
    elim c.if-not-has.branch [
      | then-not-has w ↦
          let is = w.waiting-is ∙ w.push_back.ensures in
          record {
            woken = woken-put lows old now new i lt c.loop-low.invariant.woken (ap (λ (o : Order). o.items) is);
            room = ap (λ (o : Order). o.room) is ∙ c.loop-low.invariant.room;
          }
      | else-not-has w ↦ record {
        woken = subst (λ (l : List ℕ). IsWoken (take (i + 1) lows) old l) (sym (ap (λ (o : Order). o.items) w.waiting-is))
            (woken-had lows old now i lt c.loop-low.invariant.woken (c.has.ensures.0 w.if-not-has.false));
        room = ap (λ (o : Order). o.room) w.waiting-is ∙ c.loop-low.invariant.room;
      }
    ]
