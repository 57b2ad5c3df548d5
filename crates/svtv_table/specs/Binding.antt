-- A table over the wires of a design: what it drives and samples, and its faults (this project's rules).
use Rattle.std.specs.Prelude.{ℕ, ◌+◌, ◌==◌, ◌||◌, ◌≤◌, ◌<◌, not, Bool, false, List, [], ◌∷◌, ◌++◌, take, map, filter, Option, Some, None, is_none, is_some, All, length, slice_index_or, ◌≡◌}
use Rattle.std.specs.List.{flat_map, list_any}
use Rattle.std.specs.Str.{bytes_eq}
use Rattle.sv_outside.specs.declared.refusal.Refusal.{Refusal}
use Rattle.sv_outside.specs.declared.text.Signal.{Signal}
use Rattle.svtv_table.specs.Drives.{drive_in, phase_drive, over_drive, is_over_cell}
use Rattle.svtv_table.specs.Faults.{fault, fault_if, at_each}
use Rattle.svtv_table.specs.Names.{is_among, names_in, no_signal, number_of, signal_of, width_of, width_under, wire_number, wire_of}
use Rattle.svtv_table.specs.declared.bound.Bound.{Bound}
use Rattle.svtv_table.specs.declared.bound.Drive.{Drive}
use Rattle.svtv_table.specs.declared.bound.Drive.TheVariants as drive
use Rattle.svtv_table.specs.declared.bound.Sample.{Sample}
use Rattle.svtv_table.specs.declared.bound.VarDecl.{VarDecl}
use Rattle.table_cells.specs.declared.table.Cell.{Cell}
use Rattle.table_cells.specs.declared.table.Cell.TheVariants as cell
use Rattle.table_cells.specs.declared.table.Row.{Row}
use Rattle.table_cells.specs.declared.table.RowKind.{RowKind}
use Rattle.table_cells.specs.declared.table.RowKind.TheVariants.{In, Over, Out}
use Rattle.table_cells.specs.declared.table.Table.{Table}

-- a width that a vector may have
abbrev pub HasWidth : ℕ → Type 0
HasWidth width = (0 < width) × (width ≤ 128)

-- ---- variables

-- the names of an `in` or `over` row, each as wide as the row's signal
abbrev pub declared_by : List Signal → RowKind → Row → List VarDecl
declared_by wires In row = map (λ name. record { name = name; width = width_of wires row.path }) (names_in row.cells)
declared_by wires Over row = map (λ name. record { name = name; width = width_of wires row.path }) (names_in row.cells)
declared_by wires Out row = []

abbrev pub declared_in : List Signal → Row → List VarDecl
declared_in wires row = declared_by wires row.kind row

-- of each name the first
abbrev pub first_of_each : List VarDecl → List VarDecl
first_of_each [] = []
first_of_each (var ∷ more) = var ∷ filter (λ other. not (bytes_eq var.name other.name)) (first_of_each more)

-- the variables of rows, in the order in which they appear
unfoldable pub variables_of : List Signal → List Row → List VarDecl
variables_of wires rows = first_of_each (flat_map (declared_in wires) rows)

-- ---- samples

abbrev pub cell_sample : ℕ → ℕ → ℕ → Cell → List Sample
cell_sample wire width phase (cell.Named name) = record { name = name; wire = wire; phase = phase; width = width } ∷ []
cell_sample wire width phase _ = []

abbrev pub sampled_by : List Signal → RowKind → Row → List Sample
sampled_by wires In row = []
sampled_by wires Over row = []
sampled_by wires Out row = at_each (cell_sample (wire_number wires row.path) (width_of wires row.path)) 0 row.cells

abbrev pub sampled_in : List Signal → Row → List Sample
sampled_in wires row = sampled_by wires row.kind row

-- the samples of rows, by row and then by phase
abbrev pub samples_of : List Signal → List Row → List Sample
samples_of wires rows = flat_map (sampled_in wires) rows

-- ---- drives

abbrev pub driven_by : List Signal → List VarDecl → RowKind → Row → List (ℕ × List Drive)
driven_by wires vars In row = (wire_number wires row.path, at_each (phase_drive (width_of wires row.path) vars row.cells) 0 row.cells) ∷ []
driven_by wires vars Over row = []
driven_by wires vars Out row = []

abbrev pub driven_in : List Signal → List VarDecl → Row → List (ℕ × List Drive)
driven_in wires vars row = driven_by wires vars row.kind row

-- the wire and the drives of each `in` row
abbrev pub drives_of : List Signal → List VarDecl → List Row → List (ℕ × List Drive)
drives_of wires vars rows = flat_map (driven_in wires vars) rows

-- ---- what overrides

abbrev pub phase_over : ℕ → List VarDecl → ℕ → Cell → List (Option Drive)
phase_over width vars phase cell = over_drive width vars cell ∷ []

abbrev pub overridden_by : List Signal → List VarDecl → RowKind → Row → List (ℕ × List (Option Drive))
overridden_by wires vars In row = []
overridden_by wires vars Over row = (wire_number wires row.path, at_each (phase_over (width_of wires row.path) vars) 0 row.cells) ∷ []
overridden_by wires vars Out row = []

abbrev pub overridden_in : List Signal → List VarDecl → Row → List (ℕ × List (Option Drive))
overridden_in wires vars row = overridden_by wires vars row.kind row

-- the wire of each `over` row, and phase by phase what it is set to, if to anything
abbrev pub overs_of : List Signal → List VarDecl → List Row → List (ℕ × List (Option Drive))
overs_of wires vars rows = flat_map (overridden_in wires vars) rows

-- ---- meaning, where there are no faults

unfoldable pub bound_of : List Signal → Table → Bound
bound_of wires table = record {
  phases = table.phases;
  vars = variables_of wires table.rows;
  drives = drives_of wires (variables_of wires table.rows) table.rows;
  overs = overs_of wires (variables_of wires table.rows) table.rows;
  samples = samples_of wires table.rows;
}

-- ---- faults

-- no wire has the path, or an `in` row names what is no input
abbrev pub lacks_signal : List Signal → RowKind → List ℕ → Bool
lacks_signal wires In path = is_none (wire_of wires path) || not (signal_of wires path).input
lacks_signal wires Over path = is_none (wire_of wires path)
lacks_signal wires Out path = is_none (wire_of wires path)

-- E29
unfoldable pub wire_faults : List Signal → ℕ → Row → List Refusal
wire_faults wires line row = fault_if (lacks_signal wires row.kind row.path) (fault 29 line 2)

abbrev pub drives_path : RowKind → List ℕ → List ℕ → Bool
drives_path In own path = bytes_eq own path
drives_path Over own path = false
drives_path Out own path = false

abbrev pub overrides_path : RowKind → List ℕ → List ℕ → Bool
overrides_path In own path = false
overrides_path Over own path = bytes_eq own path
overrides_path Out own path = false

-- one of the rows is an `in` row of that path
abbrev pub is_driven : List Row → List ℕ → Bool
is_driven rows path = list_any (λ row. drives_path row.kind row.path path) rows

-- one of the rows is an `over` row of that path
abbrev pub is_overridden : List Row → List ℕ → Bool
is_overridden rows path = list_any (λ row. overrides_path row.kind row.path path) rows

-- a width is told, and it is another
abbrev pub differs : Option ℕ → ℕ → Bool
differs None width = false
differs (Some own) width = not (own == width)

-- the cell names a variable of another width
abbrev pub cell_differs : ℕ → List VarDecl → Cell → Bool
cell_differs width vars (cell.Named name) = differs (width_under vars name) width
cell_differs width vars _ = false

-- E28: there is no drive. E31: the cell names a variable of another width
unfoldable pub drive_faults : Option Drive → ℕ → List VarDecl → ℕ → ℕ → Cell → List Refusal
drive_faults found width vars line phase cell = fault_if (is_none found) (fault 28 line (phase + 3)) ++ fault_if (cell_differs width vars cell) (fault 31 line (phase + 3))

-- those of a cell of an `in` row
abbrev pub phase_faults : ℕ → List VarDecl → List Cell → ℕ → ℕ → Cell → List Refusal
phase_faults width vars cells line phase cell = drive_faults (drive_in width vars cells phase) width vars line phase cell

-- E32: the name was sampled before, or it is that of a variable
unfoldable pub taken_faults : List VarDecl → List (List ℕ) → ℕ → ℕ → List ℕ → List Refusal
taken_faults vars taken line phase name = fault_if (is_among taken name || is_some (number_of vars name)) (fault 32 line (phase + 3))

unfoldable pub name_faults : List VarDecl → List (List ℕ) → ℕ → ℕ → Cell → List Refusal
name_faults vars taken line phase (cell.Named name) = taken_faults vars taken line phase name
name_faults vars taken line phase _ = []

-- those of a cell of an `out` row, behind rows that sample under these names
abbrev pub sample_faults : List VarDecl → List (List ℕ) → List Cell → ℕ → ℕ → Cell → List Refusal
sample_faults vars taken cells line phase cell = name_faults vars (taken ++ names_in (take phase cells)) line phase cell

abbrev pub sample_name : Sample → List ℕ
sample_name sample = sample.name

-- the names under which rows sample
abbrev pub sampled_names : List Signal → List Row → List (List ℕ)
sampled_names wires rows = map sample_name (samples_of wires rows)

-- those of an `in` row. E30: an earlier one has the path
unfoldable pub in_faults : Bool → ℕ → List VarDecl → ℕ → List Cell → List Refusal
in_faults again width vars line cells = fault_if again (fault 30 line 2) ++ at_each (phase_faults width vars cells line) 0 cells

-- those of a cell of an `over` row. E28: it sets the signal to nothing that it can be set to. E31: it names a variable of another width
unfoldable pub over_faults : ℕ → List VarDecl → ℕ → ℕ → Cell → List Refusal
over_faults width vars line phase cell = fault_if (not (is_over_cell width cell)) (fault 28 line (phase + 3)) ++ fault_if (cell_differs width vars cell) (fault 31 line (phase + 3))

-- those of an `over` row. E30: an earlier one has the path
unfoldable pub set_faults : Bool → ℕ → List VarDecl → ℕ → List Cell → List Refusal
set_faults again width vars line cells = fault_if again (fault 30 line 2) ++ at_each (over_faults width vars line) 0 cells

-- those of a row whose signal is there, behind the rows before it
abbrev pub faults_by : List Signal → List VarDecl → List Row → ℕ → RowKind → Row → List Refusal
faults_by wires vars before line In row = in_faults (is_driven before row.path) (width_of wires row.path) vars line row.cells
faults_by wires vars before line Over row = set_faults (is_overridden before row.path) (width_of wires row.path) vars line row.cells
faults_by wires vars before line Out row = at_each (sample_faults vars (sampled_names wires before) row.cells line) 0 row.cells

unfoldable pub faults_after : List Signal → List VarDecl → List Row → ℕ → Row → List Refusal
faults_after wires vars before line row = wire_faults wires line row ++ faults_by wires vars before line row.kind row

-- those of a row, by its number from 0
abbrev pub row_faults : List Signal → List VarDecl → List Row → ℕ → Row → List Refusal
row_faults wires vars rows at row = faults_after wires vars (take at rows) (at + 1) row

unfoldable pub bind_faults : List Signal → Table → List Refusal
bind_faults wires table = at_each (row_faults wires (variables_of wires table.rows) table.rows) 0 table.rows

-- ---- what holds of all that is bound

abbrev pub wire_width : List Signal → ℕ → ℕ
wire_width wires number = (slice_index_or wires number no_signal).width

abbrev pub var_width : List VarDecl → ℕ → ℕ
var_width vars number = (slice_index_or vars number (record { name = []; width = 0 })).width

-- the drive is as wide as its wire: its vector is, or its variable, which is there
abbrev pub IsAsWide : List VarDecl → ℕ → Drive → Type 0
IsAsWide vars width (drive.Fixed value) = length value ≡ width
IsAsWide vars width (drive.Chosen number flips) = (number < length vars) × (var_width vars number ≡ width)
IsAsWide vars width drive.Free = Unit {0}

-- the row names a wire, and has for each phase a drive that is as wide
pub record IsDriven (wires : List Signal) (vars : List VarDecl) (phases : ℕ) (row : ℕ × List Drive) : Type 0 where
  pub wire : row.0 < length wires
  pub long : length row.1 ≡ phases
  pub widths : All (IsAsWide vars (wire_width wires row.0)) row.1

-- it is set to nothing, or to a vector that is as wide
abbrev pub IsSetAsWide : List VarDecl → ℕ → Option Drive → Type 0
IsSetAsWide vars width None = Unit {0}
IsSetAsWide vars width (Some d) = IsAsWide vars width d

-- the same of a row of what overrides
pub record IsOverridden (wires : List Signal) (vars : List VarDecl) (phases : ℕ) (row : ℕ × List (Option Drive)) : Type 0 where
  pub wire : row.0 < length wires
  pub long : length row.1 ≡ phases
  pub widths : All (IsSetAsWide vars (wire_width wires row.0)) row.1

-- the sample is of a wire, as wide as it, and of a phase
pub record IsSampled (wires : List Signal) (phases : ℕ) (sample : Sample) : Type 0 where
  pub wire : sample.wire < length wires
  pub phase : sample.phase < phases
  pub width : sample.width ≡ wire_width wires sample.wire

-- What the table drives, overrides and samples fits these wires, and no wire has two rows of one kind.
pub record IsBound (wires : List Signal) (bound : Bound) : Type 0 where
  pub drives : All (IsDriven wires bound.vars bound.phases) bound.drives
  pub apart : (i j : ℕ) → i < length bound.drives → j < length bound.drives → (slice_index_or bound.drives i (0, [])).0 ≡ (slice_index_or bound.drives j (0, [])).0 → i ≡ j
  pub overs : All (IsOverridden wires bound.vars bound.phases) bound.overs
  pub overs_apart : (i j : ℕ) → i < length bound.overs → j < length bound.overs → (slice_index_or bound.overs i (0, [])).0 ≡ (slice_index_or bound.overs j (0, [])).0 → i ≡ j
  pub samples : All (IsSampled wires bound.phases) bound.samples
