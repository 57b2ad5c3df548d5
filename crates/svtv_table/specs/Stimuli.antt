-- What the inputs of a design are given, straight from the cells of a table.
use Rattle.std.specs.Prelude.{◌≡◌, ℕ, zero, suc, IsTrue, List, [], ◌∷◌, length, map, replicate, slice_index_or, All, Option, Some, None, unwrap_or, option_map, if◌then◌else◌}
use Rattle.std.specs.List.{flat_map}
use Rattle.fourvec.specs.declared.Bit.{Bit}
use Rattle.fourvec.specs.declared.Bit.TheVariants.{Floating}
use Rattle.fourvec.specs.Bits.{is_known, not_of}
use Rattle.sv_outside.specs.declared.text.Signal.{Signal}
use Rattle.svtv_table.specs.Drives.{held}
use Rattle.table_cells.specs.Constants.{constant}
use Rattle.svtv_table.specs.Faults.{at_each}
use Rattle.svtv_table.specs.Names.{number_of, width_of, wire_number}
use Rattle.svtv_table.specs.declared.bound.Bound.{Bound}
use Rattle.svtv_table.specs.declared.bound.Drive.{Drive}
use Rattle.svtv_table.specs.declared.bound.Drive.TheVariants as drive
use Rattle.svtv_table.specs.declared.bound.VarDecl.{VarDecl}
use Rattle.table_cells.specs.declared.table.Cell.{Cell}
use Rattle.table_cells.specs.declared.table.Cell.TheVariants as cell
use Rattle.table_cells.specs.declared.table.Row.{Row}
use Rattle.table_cells.specs.declared.table.RowKind.{RowKind}
use Rattle.table_cells.specs.declared.table.RowKind.TheVariants.{In, Over, Out}

-- a vector of 0 and 1 for each variable, as wide as it
pub record IsChoice (vars : List VarDecl) (choice : List (List Bit)) : Type 0 where
  pub widths : map (λ v. length v) choice ≡ map (λ v. v.width) vars
  pub known : All (λ v. IsTrue (is_known v)) choice

abbrev pub given : List (List Bit) → ℕ → List Bit
given choice number = slice_index_or choice number []

-- ---- by the cells

-- what a cell makes of the stimulus of the phase before; a free phase has none
abbrev pub stimulus_of : List (List Bit) → ℕ → List VarDecl → Cell → Option (List Bit) → Option (List Bit)
stimulus_of choice width vars cell.Empty before = None
stimulus_of choice width vars (cell.Literal literal) before = Some (constant literal width)
stimulus_of choice width vars cell.Zed before = Some (replicate width Floating)
stimulus_of choice width vars (cell.Named name) before = Some (given choice (unwrap_or (number_of vars name) 0))
stimulus_of choice width vars cell.Flip before = option_map not_of before
stimulus_of choice width vars cell.Free before = None

unfoldable pub stimulus_before : List (List Bit) → ℕ → List VarDecl → List Cell → ℕ → Option (List Bit)
stimulus_before choice width vars cells zero = None
stimulus_before choice width vars cells (suc phase) = stimulus_of choice width vars (held cells phase) (stimulus_before choice width vars cells phase)

-- the stimulus of a phase, for a signal of that width; none where the phase is free
abbrev pub stimulus : List (List Bit) → ℕ → List VarDecl → List Cell → ℕ → Cell → List (Option (List Bit))
stimulus choice width vars cells phase cell = stimulus_of choice width vars (held cells phase) (stimulus_before choice width vars cells phase) ∷ []

abbrev pub stimuli_by : List (List Bit) → List Signal → List VarDecl → RowKind → Row → List (ℕ × List (Option (List Bit)))
stimuli_by choice wires vars In row = (wire_number wires row.path, at_each (stimulus choice (width_of wires row.path) vars row.cells) 0 row.cells) ∷ []
stimuli_by choice wires vars Over row = []
stimuli_by choice wires vars Out row = []

-- of each `in` row its wire, and its stimuli phase by phase
abbrev pub stimuli_of : List (List Bit) → List Signal → List VarDecl → List Row → List (ℕ × List (Option (List Bit)))
stimuli_of choice wires vars rows = flat_map (λ row. stimuli_by choice wires vars row.kind row) rows

-- What an `over` cell sets its signal to: nothing where it is empty, a vector, or any vector.
abbrev pub setting_of : List (List Bit) → ℕ → List VarDecl → Cell → Option (Option (List Bit))
setting_of choice width vars cell.Empty = None
setting_of choice width vars (cell.Literal literal) = Some (Some (constant literal width))
setting_of choice width vars cell.Zed = Some (Some (replicate width Floating))
setting_of choice width vars (cell.Named name) = Some (Some (given choice (unwrap_or (number_of vars name) 0)))
setting_of choice width vars cell.Flip = None
setting_of choice width vars cell.Free = Some None

abbrev pub settings_by : List (List Bit) → List Signal → List VarDecl → RowKind → Row → List (ℕ × List (Option (Option (List Bit))))
settings_by choice wires vars In row = []
settings_by choice wires vars Over row = (wire_number wires row.path, map (setting_of choice (width_of wires row.path) vars) row.cells) ∷ []
settings_by choice wires vars Out row = []

-- of each `over` row its wire, and phase by phase what it is set to
abbrev pub settings_of : List (List Bit) → List Signal → List VarDecl → List Row → List (ℕ × List (Option (Option (List Bit))))
settings_of choice wires vars rows = flat_map (λ row. settings_by choice wires vars row.kind row) rows

-- ---- by the drives

-- what a drive gives
abbrev pub drive_value : List (List Bit) → Drive → Option (List Bit)
drive_value choice (drive.Fixed value) = Some value
drive_value choice (drive.Chosen number flips) = Some (if flips then not_of (given choice number) else given choice number)
drive_value choice drive.Free = None

abbrev pub values_of : List (List Bit) → List (ℕ × List Drive) → List (ℕ × List (Option (List Bit)))
values_of choice drives = map (λ row. (row.0, map (drive_value choice) row.1)) drives

-- what is set to, of what a drive gives
abbrev pub setting_value : List (List Bit) → Option Drive → Option (Option (List Bit))
setting_value choice d = option_map (drive_value choice) d

abbrev pub settings_in : List (List Bit) → List (ℕ × List (Option Drive)) → List (ℕ × List (Option (Option (List Bit))))
settings_in choice overs = map (λ row. (row.0, map (setting_value choice) row.1)) overs

-- under every choice the drives give what the cells say
abbrev pub Means : List Signal → List Row → Bound → Type 0
Means wires rows bound = (choice : List (List Bit)) → IsChoice bound.vars choice → values_of choice bound.drives ≡ stimuli_of choice wires bound.vars rows

-- and set the signals to what the `over` cells say
abbrev pub Sets : List Signal → List Row → Bound → Type 0
Sets wires rows bound = (choice : List (List Bit)) → IsChoice bound.vars choice → settings_in choice bound.overs ≡ settings_of choice wires bound.vars rows
