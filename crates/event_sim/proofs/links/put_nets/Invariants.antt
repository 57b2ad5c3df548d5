use Rattle.std.proofs.Common.{◌≡◌, ℕ, ◌<◌, [], get_or, length, take}
use Rattle.std.specs.Prelude.{Contains}
use Rattle.event_nets.specs.Needs.{gift_rows}
use Rattle.node_memo.specs.Memos.{rows_in}
use Rattle.event_sim.specs.Linked.{AreTaken}
use Rattle.event_sim.proofs.links.put_nets.Given as goal

abbrev pub invariant-loop-low : goal.invariant-loop-low
invariant-loop-low l = record {
  len : length l.takers ≡ length l.initial.takers;
  inside : (k low : ℕ) → Contains (get_or (rows_in l.takers) k []) low → low < length l.tables.given.items;
  taken : AreTaken (take l.low-index l.tables.nets.items) (gift_rows l.tables.given.items) (rows_in l.takers);
}
