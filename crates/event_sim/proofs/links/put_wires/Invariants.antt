use Rattle.std.proofs.Common.{◌≡◌, ℕ, ◌+◌, ◌<◌, [], get_or, length}
use Rattle.std.specs.Prelude.{Some, Contains}
use Rattle.node_memo.specs.Memos.{rows_in}
use Rattle.event_sim.specs.Rows.{low_at}
use Rattle.event_sim.proofs.links.put_wires.Given as goal

abbrev pub invariant-loop-wire : goal.invariant-loop-wire
invariant-loop-wire l = record {
  len : length l.wires ≡ length l.initial.wires;
  inside : (low n : ℕ) → Contains (get_or (rows_in l.wires) low []) n → n < l.wire;
  lie : (n k low : ℕ) → n < l.wire → k < get_or l.widths n 0 → low_at l.tables.homes.items l.tables.lows.items (get_or l.tables.starts.items n 0 + k) ≡ Some low
      → Contains (get_or (rows_in l.wires) low []) n;
}
