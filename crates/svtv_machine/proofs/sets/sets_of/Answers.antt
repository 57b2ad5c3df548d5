use Rattle.std.proofs.Common.{arith}
use Rattle.svtv_machine.proofs.Adding.{all_more, once_more, only_more, order_more}
use Rattle.svtv_machine.proofs.sets.sets_of.Goals as goal

pub phases-preserved : goal.phases-preserved
phases-preserved c =
    let overs = c.args.bound.now.overs in
    let phase = c.phases.phase in
    let old = c.phases.sets in
    let new = c.add_set.new.sets in
    let over = c.in_ok-over.over in
    let more = c.in_ok-add_set.ensures in
    let kept = c.phases.invariant in
    record {
      all = all_more overs phase old new over more c.in_ok-over.ensures.ascending c.in_ok-over.ensures.wires kept.all;
      once = once_more overs phase old new over more kept.once;
      only = only_more overs phase old new over more c.in_ok-over.ensures.ascending c.in_ok-over.ensures.wires kept.only;
      order = order_more overs phase old new over more c.in_ok-over.ensures.ascending c.in_ok-over.ensures.wires kept.all kept.only kept.order;
    }

pub returns-clause-order : goal.returns-clause-order
returns-clause-order c = λ s t lt tl phase below wires. c.phases.invariant.order s t lt tl phase (omega (arith, below)) wires
