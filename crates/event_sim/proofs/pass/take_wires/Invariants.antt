use Rattle.std.proofs.Common.{◌≡◌, ◌≢◌, true, false, [], get_or, take}
use Rattle.node_memo.specs.Memos.{IsMemo}
use Rattle.node_memo.specs.Memos.{rows_in}
use Rattle.event_sim.specs.Queues.{AreUnread, AreForgotten}
use Rattle.event_sim.proofs.Taking.{WiresTaken}
use Rattle.event_sim.proofs.pass.take_wires.Given as goal

abbrev pub invariant-loop-wire : goal.invariant-loop-wire
invariant-loop-wire l = record {
  taken : WiresTaken l.tables.homes.items l.tables.starts.items l.tables.lows.items l.low l.told (take l.wire-index (get_or (rows_in l.links.wires.items) l.low [])) l.initial.present l.present;
  memo : IsMemo l.arena l.memo;
  same : l.changed ≡ false → l.present ≡ l.initial.present;
  still : l.changed ≡ false → l.waiting ≡ l.initial.waiting;
  changed : l.changed ≡ true → l.present ≢ l.initial.present;
  unread : AreUnread (rows_in l.links.present.items) l.initial.present l.present l.memo;
  forgotten : AreForgotten (rows_in l.links.takers.items) l.initial.memo l.memo l.initial.waiting.items l.waiting.items;
  room : l.waiting.room ≡ l.initial.waiting.room;
}
