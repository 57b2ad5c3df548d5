-- Names, wires and variables by their numbers.
use Rattle.std.specs.Prelude.{ℕ, List, [], ◌∷◌, Bool, false, Option, Some, None, is_some, unwrap_or, map, slice_index_or}
use Rattle.std.specs.List.{flat_map}
use Rattle.sv_outside.specs.declared.text.Signal.{Signal}
use Rattle.svtv_table.specs.declared.bound.VarDecl.{VarDecl}
use Rattle.table_cells.specs.declared.table.Cell.{Cell}
use Rattle.table_cells.specs.declared.table.Cell.TheVariants as cell
pub use Rattle.name_index.specs.Indexing.{place_of}

abbrev pub is_among : List (List ℕ) → List ℕ → Bool
is_among names name = is_some (place_of names name)

-- ---- wires

abbrev pub path_of : Signal → List ℕ
path_of wire = wire.path

-- the number of the first wire with a path
abbrev pub wire_of : List Signal → List ℕ → Option ℕ
wire_of wires path = place_of (map path_of wires) path

abbrev pub wire_number : List Signal → List ℕ → ℕ
wire_number wires path = unwrap_or (wire_of wires path) 0

abbrev pub no_signal : Signal
no_signal = record { path = []; width = 1; input = false }

abbrev pub signal_at : List Signal → Option ℕ → Signal
signal_at wires None = no_signal
signal_at wires (Some number) = slice_index_or wires number no_signal

-- that wire
abbrev pub signal_of : List Signal → List ℕ → Signal
signal_of wires path = signal_at wires (wire_of wires path)

abbrev pub width_of : List Signal → List ℕ → ℕ
width_of wires path = (signal_of wires path).width

-- ---- variables

abbrev pub name_of : VarDecl → List ℕ
name_of var = var.name

-- the number of the variable with a name
abbrev pub number_of : List VarDecl → List ℕ → Option ℕ
number_of vars name = place_of (map name_of vars) name

abbrev pub width_at : List VarDecl → Option ℕ → Option ℕ
width_at vars None = None
width_at vars (Some number) = Some (slice_index_or vars number (record { name = []; width = 0 })).width

-- the width of that variable
abbrev pub width_under : List VarDecl → List ℕ → Option ℕ
width_under vars name = width_at vars (number_of vars name)

-- ---- cells

abbrev pub name_in : Cell → List (List ℕ)
name_in (cell.Named name) = name ∷ []
name_in _ = []

-- the names in cells, in order
abbrev pub names_in : List Cell → List (List ℕ)
names_in cells = flat_map name_in cells
