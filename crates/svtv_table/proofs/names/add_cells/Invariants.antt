use Rattle.std.proofs.Common.{◌≡◌, drop}
use Rattle.svtv_table.specs.Indexing.{listed, wide, with_vars}
use Rattle.svtv_table.specs.Names.{names_in}
use Rattle.svtv_table.proofs.names.add_cells.Given as goal

abbrev pub invariant-loop-cell : goal.invariant-loop-cell
invariant-loop-cell l = with_vars (listed l.variables) (wide l.width (names_in (drop l.cell-index l.cells))) ≡ with_vars (listed l.fn.variables) (wide l.width (names_in l.cells))
