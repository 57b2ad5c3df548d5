use Rattle.std.proofs.Common.{◌≡◌, drop, []}
use Rattle.std.specs.List.{flat_map}
use Rattle.svtv_table.specs.Binding.{declared_in}
use Rattle.svtv_table.specs.Indexing.{listed, with_vars}
use Rattle.svtv_table.proofs.names.add_rows.Given as goal

abbrev pub invariant-loop-row : goal.invariant-loop-row
invariant-loop-row l = with_vars (listed l.variables) (flat_map (declared_in l.wires.list.now) (drop l.row-index l.rows)) ≡ with_vars [] (flat_map (declared_in l.wires.list.now) l.rows)
