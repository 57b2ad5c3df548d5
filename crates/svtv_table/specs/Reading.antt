-- The table that records stand for, and their faults (this project's rules).
use Rattle.std.specs.Prelude.{◌≡◌, ◌==◌, ◌+◌, ◌-◌, not, nat_lt, is_none, unwrap_or, IsTrue, ℕ, List, [], ◌∷◌, ◌++◌, length, drop, map, codes, Option, Some, None, if◌then◌else◌, All}
use Rattle.std.specs.Str.{bytes_eq}
use Rattle.fourvec.specs.Bits.{is_known}
use Rattle.sv_outside.specs.declared.refusal.Refusal.{Refusal}
use Rattle.table_cells.specs.Cells.{cell_of}
use Rattle.svtv_table.specs.Faults.{fault, fault_if, at_each}
use Rattle.svtv_table.specs.Fields.{field_at}
use Rattle.table_cells.specs.declared.table.Cell.{Cell}
use Rattle.table_cells.specs.declared.table.Cell.TheVariants as cell
use Rattle.table_cells.specs.declared.table.Row.{Row}
use Rattle.table_cells.specs.declared.table.RowKind.{RowKind}
use Rattle.table_cells.specs.declared.table.RowKind.TheVariants.{In, Over, Out}
use Rattle.table_cells.specs.declared.table.Table.{Table}

-- the word in the first field
unfoldable pub kind_of : List ℕ → Option RowKind
kind_of text = if bytes_eq text (codes "in") then Some In else (if bytes_eq text (codes "over") then Some Over else (if bytes_eq text (codes "out") then Some Out else None))

-- ---- faults

-- E28: the field is none of the forms of a cell of that kind
unfoldable pub cell_fault : RowKind → ℕ → ℕ → List ℕ → List Refusal
cell_fault kind line at text = fault_if (is_none (cell_of kind text)) (fault 28 line (at + 1))

-- those of the cells, which begin at the third field
abbrev pub cell_faults : RowKind → ℕ → List (List ℕ) → List Refusal
cell_faults kind line fields = at_each (cell_fault kind line) 2 (drop 2 fields)

-- E26: the first field is no kind
abbrev pub faults_of_kind : Option RowKind → ℕ → List (List ℕ) → List Refusal
faults_of_kind None line fields = fault 26 line 1 ∷ []
faults_of_kind (Some kind) line fields = cell_faults kind line fields

-- E26: a record has another number of fields than the first one
unfoldable pub record_faults : ℕ → ℕ → List (List ℕ) → List Refusal
record_faults count at fields = fault_if (not (length fields == count)) (fault 26 (at + 1) 1) ++ faults_of_kind (kind_of (field_at fields 0)) (at + 1) fields

-- E26: fewer than three fields. E27: more than 64 phases
abbrev pub width_faults : ℕ → List Refusal
width_faults count = fault_if (nat_lt count 3) (fault 26 1 1) ++ fault_if (nat_lt 66 count) (fault 27 1 1)

-- E26: no record
abbrev pub front_faults : List (List (List ℕ)) → List Refusal
front_faults [] = fault 26 1 1 ∷ []
front_faults (fields ∷ more) = width_faults (length fields)

-- how many fields the first record has
abbrev pub count_in : List (List (List ℕ)) → ℕ
count_in [] = 0
count_in (fields ∷ more) = length fields

unfoldable pub table_faults : List (List (List ℕ)) → List Refusal
table_faults rows = front_faults rows ++ at_each (record_faults (count_in rows)) 0 rows

-- ---- meaning, where there are no faults

abbrev pub cell_in : RowKind → List ℕ → Cell
cell_in kind text = unwrap_or (cell_of kind text) cell.Empty

-- a kind, the path of a signal, and the cells
abbrev pub row_of_kind : RowKind → List (List ℕ) → Row
row_of_kind kind fields = record { kind = kind; path = field_at fields 1; cells = map (cell_in kind) (drop 2 fields) }

unfoldable pub row_of : List (List ℕ) → Row
row_of fields = row_of_kind (unwrap_or (kind_of (field_at fields 0)) In) fields

-- one phase for each field behind the kind and the path
unfoldable pub table_of : List (List (List ℕ)) → Table
table_of rows = record { phases = count_in rows - 2; rows = map row_of rows }

-- ---- what holds of every table that is read

-- each bit of a constant is 0 or 1
abbrev pub IsKnownCell : Cell → Type 0
IsKnownCell (cell.Literal literal) = IsTrue (is_known literal.value)
IsKnownCell _ = Unit {0}

-- each row has a cell for each phase, and each constant is known
pub record IsWellFormed (table : Table) : Type 0 where
  pub cells : All (λ row. length row.cells ≡ table.phases) table.rows
  pub known : All (λ row. All IsKnownCell row.cells) table.rows
