use Rattle.std.proofs.Common.{◌≡◌, drop, take}
use Rattle.svtv_table.specs.Binding.{row_faults}
use Rattle.svtv_table.specs.Faults.{at_each}
use Rattle.svtv_table.specs.Following.{Follows}
use Rattle.svtv_table.specs.Indexing.{listed}
use Rattle.svtv_table.proofs.binding.bind_rows.Given as goal

abbrev pub invariant-loop-at : goal.invariant-loop-at
invariant-loop-at l = record {
  follows : Follows l.wires.list.now (listed l.variables) (take l.at l.rows) l.work;
  fine : at_each (row_faults l.wires.list.now (listed l.variables) l.rows) l.at (drop l.at l.rows) ≡ at_each (row_faults l.wires.list.now (listed l.variables) l.rows) 0 l.rows;
}
