use Rattle.std.proofs.Common.{◌-◌, ◌+◌, ℕ, ◌<◌, ◌≤◌}
use Rattle.event_nets.specs.Needs.{gift_rows}
use Rattle.net_resolve.specs.Pieces.{AreMoved, row_at}
use Rattle.net_resolve.proofs.pieces.piece_width.Given as goal

abbrev pub invariant-loop-width : goal.invariant-loop-width
invariant-loop-width l = record {
  some : 1 ≤ l.width;
  most : l.width ≤ l.most;
  moved : (j : ℕ) → j < l.width → AreMoved j (row_at (gift_rows l.rows) l.low) (row_at (gift_rows l.rows) (l.low + j));
}

abbrev pub decreases-loop-width : goal.decreases-loop-width
decreases-loop-width l = l.most - l.width
