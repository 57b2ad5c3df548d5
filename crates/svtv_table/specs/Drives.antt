-- What drives an input in each phase (this project's rules).
use Rattle.std.specs.Prelude.{ℕ, zero, suc, Bool, not, true, false, List, [], ◌∷◌, replicate, slice_index_or, Option, Some, None, unwrap_or, if◌then◌else◌}
use Rattle.fourvec.specs.declared.Bit.{Bit}
use Rattle.fourvec.specs.declared.Bit.TheVariants.{Floating}
use Rattle.fourvec.specs.Bits.{is_known, not_of}
use Rattle.sv_literal.specs.declared.meaning.Literal.{Literal}
use Rattle.svtv_table.specs.Names.{number_of}
use Rattle.svtv_table.specs.declared.bound.Drive.{Drive}
use Rattle.svtv_table.specs.declared.bound.Drive.TheVariants as drive
use Rattle.svtv_table.specs.declared.bound.VarDecl.{VarDecl}
use Rattle.table_cells.specs.Constants.{constant, fits}
use Rattle.table_cells.specs.declared.table.Cell.{Cell}
use Rattle.table_cells.specs.declared.table.Cell.TheVariants as cell

-- ---- the cell that counts in a phase

abbrev pub cell_at : List Cell → ℕ → Cell
cell_at cells phase = slice_index_or cells phase cell.Empty

-- an empty cell is the one before it
abbrev pub unless_empty : Cell → Cell → Cell
unless_empty cell.Empty before = before
unless_empty cell before = cell

-- the cell that counts before a phase: free before phase 0
unfoldable pub held_before : List Cell → ℕ → Cell
held_before cells zero = cell.Free
held_before cells (suc phase) = unless_empty (cell_at cells phase) (held_before cells phase)

-- the cell that counts in a phase
abbrev pub held : List Cell → ℕ → Cell
held cells phase = unless_empty (cell_at cells phase) (held_before cells phase)

-- ---- drives

abbrev pub fixed_drive : Literal → ℕ → Option Drive
fixed_drive literal width = if fits literal width then Some (drive.Fixed (constant literal width)) else None

abbrev pub complement_drive : List Bit → Option Drive
complement_drive value = if is_known value then Some (drive.Fixed (not_of value)) else None

-- the complement, of a vector of 0 and 1 and of a variable
abbrev pub flipped_drive : Option Drive → Option Drive
flipped_drive None = None
flipped_drive (Some (drive.Fixed value)) = complement_drive value
flipped_drive (Some (drive.Chosen number flips)) = Some (drive.Chosen number (not flips))
flipped_drive (Some drive.Free) = None

abbrev pub chosen : List VarDecl → List ℕ → Drive
chosen vars name = drive.Chosen (unwrap_or (number_of vars name) 0) false

-- what a cell makes of the drive of the phase before
abbrev pub drive_of : ℕ → List VarDecl → Cell → Option Drive → Option Drive
drive_of width vars cell.Empty before = Some drive.Free
drive_of width vars (cell.Literal literal) before = fixed_drive literal width
drive_of width vars cell.Zed before = Some (drive.Fixed (replicate width Floating))
drive_of width vars (cell.Named name) before = Some (chosen vars name)
drive_of width vars cell.Flip before = flipped_drive before
drive_of width vars cell.Free before = Some drive.Free

-- the drive before a phase: none before phase 0
unfoldable pub drive_before : ℕ → List VarDecl → List Cell → ℕ → Option Drive
drive_before width vars cells zero = None
drive_before width vars cells (suc phase) = drive_of width vars (held cells phase) (drive_before width vars cells phase)

-- The drive of a phase, for a signal of that width. There is none where a literal does not fit, and where `~` stands in phase 0
-- or after a phase that is free, Z or has no drive.
abbrev pub drive_in : ℕ → List VarDecl → List Cell → ℕ → Option Drive
drive_in width vars cells phase = drive_of width vars (held cells phase) (drive_before width vars cells phase)

abbrev pub phase_drive : ℕ → List VarDecl → List Cell → ℕ → Cell → List Drive
phase_drive width vars cells phase cell = unwrap_or (drive_in width vars cells phase) drive.Free ∷ []

-- ---- what a signal is set to

-- What an `over` cell sets a signal of that width to. There is nothing where the cell is empty, and where a literal does not fit.
abbrev pub over_drive : ℕ → List VarDecl → Cell → Option Drive
over_drive width vars cell.Empty = None
over_drive width vars (cell.Literal literal) = fixed_drive literal width
over_drive width vars cell.Zed = Some (drive.Fixed (replicate width Floating))
over_drive width vars (cell.Named name) = Some (chosen vars name)
over_drive width vars cell.Flip = None
over_drive width vars cell.Free = Some drive.Free

-- the cell is an `over` cell of a signal of that width: `~` is none, and a literal fits
abbrev pub is_over_cell : ℕ → Cell → Bool
is_over_cell width cell.Flip = false
is_over_cell width (cell.Literal literal) = fits literal width
is_over_cell width _ = true
