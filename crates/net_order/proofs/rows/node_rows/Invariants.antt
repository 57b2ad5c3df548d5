use Rattle.std.proofs.Common.{◌≡◌, ◌<◌, ℕ, [], length, get_or}
use Rattle.std.specs.Prelude.{slice_index}
use Rattle.svex_shape.specs.Shapes.{shape_at}
use Rattle.net_order.specs.Rows.{IsNodeRow}
use Rattle.net_order.proofs.rows.node_rows.Given as goal

abbrev pub invariant-nodes : goal.invariant-nodes
invariant-nodes l = record {
  size : length l.rows.items ≡ l.p;
  rows : (p : ℕ) → p < l.p → IsNodeRow l.joins l.tellers.segs.items (length l.used.nodes.items) (slice_index l.used.places.items) (shape_at l.arena (slice_index l.used.nodes.items p)) (get_or l.rows.items p []);
}
