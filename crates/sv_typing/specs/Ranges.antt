-- Ranges of elements (IEEE 1800-2017, 11.5.1).
use Rattle.std.specs.Prelude.{◌≡◌, ℕ, ◌*◌, ◌≤◌, Bool, true, false, ◌&&◌, ◌||◌, not, ℤ, pos, ◌-ℤ◌, int_lt, int_le, nat_abs, Option, Some, None, Result, Ok, Err, if◌then◌else◌}
use Rattle.sv_outside.specs.declared.refusal.Place.{Place}
use Rattle.sv_outside.specs.declared.refusal.TextErr.{TextErr}
use Rattle.sv_tree.specs.declared.exprs.RangeMark.{RangeMark}
use Rattle.sv_tree.specs.declared.exprs.RangeMark.TheVariants as mark
use Rattle.sv_meaning.specs.Faults.{Faults, fault_if, or_then, bad_width, bad_select}
use Rattle.sv_meaning.specs.Layouts.{width, goes_down, count_between}
use Rattle.sv_meaning.specs.Meanings.{goes_along, is_width}
use Rattle.sv_names.specs.declared.cursor.Row.{Row}
use Rattle.sv_names.specs.Cursors.{each_is}
use Rattle.sv_typing.specs.Judging.{IsCause}

-- how many bits an element has
abbrev pub each_width : Row → ℕ
each_width row = width (each_is row.each)

-- ---- constant bounds

-- whether elements are counted from the declared right bound down to the given one
unfoldable pub is_turned : Row → ℤ → ℤ → Bool
is_turned row a b = (int_lt a b && int_le row.left row.right) || not (goes_down row.left row.right)

-- the least significant element of a constant range, counted from that of the declared right bound
abbrev pub lowest_of : Row → ℤ → ℤ → ℤ
lowest_of row a b = if is_turned row a b then row.right -ℤ b else b -ℤ row.right

pub record IsBetween (row : Row) (a b : ℤ) (count : ℕ) : Type 0 where
  pub along : goes_along row.left row.right a b ≡ true
  pub counted : count_between a b ≡ count
  pub some : 1 ≤ count
  pub most : count * each_width row ≤ 128

-- what stands against bounds of 32 bits
abbrev pub between_faults : Place → Row → ℤ → ℤ → Faults
between_faults p row a b =
    or_then (fault_if (not (goes_along row.left row.right a b)) bad_select p) (fault_if (not (is_width (count_between a b * each_width row))) bad_width p)

abbrev pub JudgesBetween : Place → Row → ℤ → ℤ → Result ℕ TextErr → Type 0
JudgesBetween p row a b (Ok n) = IsBetween row a b n
JudgesBetween p row a b (Err e) = IsCause (between_faults p row a b) e

-- ---- a width

pub record IsMany (row : Row) (i : ℤ) (count : ℕ) : Type 0 where
  pub number : i ≡ pos count
  pub some : 1 ≤ count
  pub most : count * each_width row ≤ 128

abbrev pub many_faults : Place → Row → ℤ → Faults
many_faults p row i =
    or_then (fault_if (not (int_lt (pos 0) i)) bad_select p) (fault_if (not (is_width (nat_abs i * each_width row))) bad_width p)

abbrev pub JudgesMany : Place → Row → ℤ → Result ℕ TextErr → Type 0
JudgesMany p row i (Ok n) = IsMany row i n
JudgesMany p row i (Err e) = IsCause (many_faults p row i) e

-- how many elements further on a range of so many begins
abbrev pub shift_of : RangeMark → Bool → ℤ → ℤ
shift_of mark.Down true n = pos 1 -ℤ n
shift_of mark.Up false n = n -ℤ pos 1
shift_of m down n = pos 0

abbrev pub is_to : RangeMark → Bool
is_to mark.To = true
is_to m = false

-- ---- copies

-- so many copies of so many bits are the bits of a vector
pub record IsCopies (i : ℤ) (each : ℕ) (count : ℕ) : Type 0 where
  pub number : i ≡ pos count
  pub some : 1 ≤ count
  pub bits : 1 ≤ count * each
  pub most : count * each ≤ 128

abbrev pub JudgesCopies : ℤ → ℕ → Option ℕ → Type 0
JudgesCopies i each (Some n) = IsCopies i each n
JudgesCopies i each None = (int_lt (pos 0) i && is_width (nat_abs i * each)) ≡ false
