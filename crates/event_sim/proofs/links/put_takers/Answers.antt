use Rattle.std.proofs.Common.{List, take_all, subst, arith}
use Rattle.std.specs.Prelude.{All}
use Rattle.event_nets.specs.declared.gift.Gift.{Gift}
use Rattle.node_memo.specs.Memos.{rows_in}
use Rattle.node_memo.proofs.Rows.{gains-both}
use Rattle.event_sim.specs.Linked.{IsTakenBy}
use Rattle.event_sim.proofs.Linking.{taken-push}
use Rattle.event_sim.proofs.links.put_takers.Goals as goal

pub loop-gift-preserved : goal.loop-gift-preserved
loop-gift-preserved c =
    let old = rows_in c.loop-gift.takers in
    let new = rows_in c.put_taker.new.takers in
    let low = c.args.low in
    let g = c.in_ok-put_taker.ensures.gains in
    record {
      gains = gains-both (rows_in c.args.takers.now) old new low c.loop-gift.invariant.gains g;
      has = taken-push old new low c.args.gifts.now c.loop-gift.gift-index c.gift-item.result (omega arith) c.gift-item.is g c.loop-gift.invariant.has c.in_ok-put_taker.ensures.has;
    }

pub returns-clause-has : goal.returns-clause-has
returns-clause-has c =
    subst (λ (l : List Gift). All (IsTakenBy (rows_in c.loop-gift.takers) c.args.low) l) (take_all c.loop-gift.gift-index c.args.gifts.now (omega arith)) c.loop-gift.invariant.has
