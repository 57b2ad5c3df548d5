use Rattle.std.proofs.Common.{take}
use Rattle.std.specs.Prelude.{All}
use Rattle.node_memo.specs.Memos.{rows_in}
use Rattle.node_memo.specs.Lists.{Gains}
use Rattle.event_sim.specs.Linked.{IsTakenBy}
use Rattle.event_sim.proofs.links.put_takers.Given as goal

abbrev pub invariant-loop-gift : goal.invariant-loop-gift
invariant-loop-gift l = record {
  gains : Gains (rows_in l.initial.takers) l.low (rows_in l.takers);
  has : All (IsTakenBy (rows_in l.takers) l.low) (take l.gift-index l.gifts);
}
