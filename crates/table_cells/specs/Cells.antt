-- The forms of a cell (this project's rules; identifiers and literals are those of IEEE 1800-2017, 5.6 and 5.7.1).
use Rattle.std.specs.Prelude.{◌==◌, ◌&&◌, not, ℕ, Bool, List, length, codes, Option, Some, None, option_map, if◌then◌else◌}
use Rattle.std.specs.Str.{bytes_eq}
use Rattle.fourvec.specs.Bits.{is_known}
use Rattle.sv_outside.specs.Words.{is_id}
use Rattle.sv_outside.specs.Literals.{is_literal}
use Rattle.sv_literal.specs.Meaning.{is_wide, is_out_of_range, meaning_of}
use Rattle.sv_literal.specs.declared.meaning.Literal.{Literal}
use Rattle.table_cells.specs.declared.table.Cell.{Cell}
use Rattle.table_cells.specs.declared.table.Cell.TheVariants as cell
use Rattle.table_cells.specs.declared.table.RowKind.{RowKind}
use Rattle.table_cells.specs.declared.table.RowKind.TheVariants.{In, Over, Out}

-- a literal that has a value (5.7.1)
abbrev pub has_value : List ℕ → Bool
has_value text = is_literal text && not (is_wide text) && not (is_out_of_range text)

-- the literal, where each of its bits is 0 or 1
unfoldable pub known_literal : List ℕ → Option Literal
known_literal text = if has_value text && is_known (meaning_of text).value then Some (meaning_of text) else None

abbrev pub is_empty : List ℕ → Bool
is_empty text = length text == 0

-- the name of a variable or of a sample: an identifier, but not `_` or `z`, which say something else
unfoldable pub is_cell_name : List ℕ → Bool
is_cell_name text = is_id text && not (bytes_eq text (codes "_")) && not (bytes_eq text (codes "z"))

abbrev pub constant_cell : List ℕ → Option Cell
constant_cell text = option_map cell.Literal (known_literal text)

-- a stimulus: nothing, `_`, `z`, `~`, a name or a literal
unfoldable pub in_cell : List ℕ → Option Cell
in_cell text =
    if is_empty text then Some cell.Empty
    else (if bytes_eq text (codes "_") then Some cell.Free
    else (if bytes_eq text (codes "z") then Some cell.Zed
    else (if bytes_eq text (codes "~") then Some cell.Flip
    else (if is_cell_name text then Some (cell.Named text)
    else constant_cell text))))

-- what a signal is set to: as a stimulus, but for `~`
unfoldable pub over_cell : List ℕ → Option Cell
over_cell text = if bytes_eq text (codes "~") then None else in_cell text

-- a sample: nothing or a name
unfoldable pub out_cell : List ℕ → Option Cell
out_cell text = if is_empty text then Some cell.Empty else (if is_cell_name text then Some (cell.Named text) else None)

-- the cell that a field spells, in a row of that kind
abbrev pub cell_of : RowKind → List ℕ → Option Cell
cell_of In text = in_cell text
cell_of Over text = over_cell text
cell_of Out text = out_cell text
