use Rattle.std.proofs.Common.{ℕ, ◌+◌, ◌<◌, [], get_or}
use Rattle.std.specs.Prelude.{IfSome, Contains}
use Rattle.node_memo.specs.Memos.{rows_in}
use Rattle.node_memo.specs.Lists.{Gains}
use Rattle.event_sim.specs.Rows.{low_at}
use Rattle.event_sim.proofs.links.put_bits.Given as goal

abbrev pub invariant-loop-at : goal.invariant-loop-at
invariant-loop-at l = record {
  gains : Gains (rows_in l.initial.wires) l.wire (rows_in l.wires);
  has : (k : ℕ) → k < l.at → IfSome (low_at l.tables.homes.items l.tables.lows.items (l.start + k)) (λ low. Contains (get_or (rows_in l.wires) low []) l.wire);
}
