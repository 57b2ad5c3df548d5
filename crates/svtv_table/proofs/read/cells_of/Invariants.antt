use Rattle.std.proofs.Common.{◌≡◌, ◌++◌, map, drop}
use Rattle.svtv_table.specs.Faults.{at_each}
use Rattle.svtv_table.specs.Fields.{fields_in}
use Rattle.svtv_table.specs.Reading.{cell_fault, cell_faults, cell_in}
use Rattle.svtv_table.proofs.read.cells_of.Given as goal

abbrev pub invariant-loop-at : goal.invariant-loop-at
invariant-loop-at l = record {
  fine : at_each (cell_fault l.kind l.line) l.at (drop l.at (fields_in l.csv_record)) ≡ cell_faults l.kind l.line (fields_in l.csv_record);
  cells : l.cells ++ map (cell_in l.kind) (drop l.at (fields_in l.csv_record)) ≡ map (cell_in l.kind) (drop 2 (fields_in l.csv_record));
}
