-- Records of a table.
use Rattle.std.proofs.Common.{◌≡◌, ◌+◌, ℕ, List, [], ◌∷◌, map, refl, ap, Some, None}
use Rattle.sv_outside.specs.declared.refusal.TextErr.{TextErr}
use Rattle.sv_outside.specs.declared.refusal.TextErr.TheVariants.{No, Memory}
use Rattle.csv.specs.Records.{Row, fields_of}
use Rattle.svtv_table.specs.Faults.{fault, Stops, StopsText}
use Rattle.svtv_table.specs.Fields.{fields_in, trimmed, IsRecords}
use Rattle.csv.specs.Reading.{AreRecords, default_config, strip_bom}
use Rattle.csv.specs.declared.parser.State.TheVariants as st
use Rattle.table_cells.specs.Cells.{cell_of}
use Rattle.svtv_table.specs.Reading.{cell_fault, cell_in}
use Rattle.table_cells.specs.declared.table.Cell.{Cell}
use Rattle.table_cells.specs.declared.table.RowKind.{RowKind}
use Rattle.sv_outside.specs.declared.refusal.Refusal.{Refusal}

pub bad_cell : (kind : RowKind) (line at : ℕ) (text : List ℕ) (e : TextErr) → cell_of kind text ≡ None → e ≡ No (fault 28 line (at + 1)) → Stops (cell_fault kind line at text) e
unfolding Stops cell_fault
bad_cell kind line at text e n h = rw (h, n) refl

pub fine_cell : (kind : RowKind) (line at : ℕ) (text : List ℕ) (c : Cell) → cell_of kind text ≡ Some c → cell_fault kind line at text ≡ []
unfolding cell_fault
fine_cell kind line at text c s = rw s refl

pub cell_in_some : (kind : RowKind) (text : List ℕ) (c : Cell) → cell_of kind text ≡ Some c → cell_in kind text ≡ c
cell_in_some kind text c s = rw s refl

fields_twice : (records : List Row) → map fields_in records ≡ map (map trimmed) (map fields_of records)
fields_twice [] = refl
fields_twice (r ∷ rs) = ap (λ rows. fields_in r ∷ rows) (fields_twice rs)

-- the records that were read, as they count
pub are_records : (text : List ℕ) (records : List Row) → AreRecords default_config st.StartRecord (strip_bom text) (map fields_of records) → IsRecords text (map fields_in records)
are_records text records h = (map fields_of records, h, fields_twice records)

pub stops_text : (faults : List (List (List ℕ)) → List Refusal) (text : List ℕ) (rows : List (List (List ℕ))) (e : TextErr) → IsRecords text rows → Stops (faults rows) e → StopsText faults text e
unfolding Stops
stops_text faults text rows (No refusal) h s = (rows, h, s)
stops_text faults text rows Memory h s = tt
