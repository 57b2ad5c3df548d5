use Rattle.std.proofs.Common.{◌≡◌, map, take, drop}
use Rattle.svtv_table.specs.Faults.{at_each}
use Rattle.svtv_table.specs.Fields.{fields_in}
use Rattle.svtv_table.specs.Reading.{record_faults, row_of}
use Rattle.svtv_table.proofs.read.rows_of.Given as goal

abbrev pub invariant-loop-at : goal.invariant-loop-at
invariant-loop-at l = record {
  fine : at_each (record_faults l.count) l.at (drop l.at (map fields_in l.records)) ≡ at_each (record_faults l.count) 0 (map fields_in l.records);
  rows : l.rows ≡ map row_of (take l.at (map fields_in l.records));
}
