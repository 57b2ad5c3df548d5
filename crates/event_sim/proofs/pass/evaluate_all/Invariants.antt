use Rattle.std.proofs.Common.{take}
use Rattle.std.specs.Prelude.{All}
use Rattle.svex_shape.specs.Values.{read}
use Rattle.node_memo.specs.Memos.{IsMemo, HasFresh, StayFresh}
use Rattle.event_sim.specs.Queues.{IsGivenFresh}
use Rattle.event_sim.proofs.pass.evaluate_all.Given as goal

abbrev pub invariant-loop-gift : goal.invariant-loop-gift
invariant-loop-gift l = record {
  memo : IsMemo l.arena l.memo;
  right : HasFresh (read l.env) l.arena l.memo;
  has : All (IsGivenFresh l.memo) (take l.gift-index l.gifts);
  stay : StayFresh l.initial.memo l.memo;
}
