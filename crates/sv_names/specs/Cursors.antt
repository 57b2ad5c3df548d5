-- Where a chain of selects stands in a layout.
use Rattle.std.specs.Prelude.{ℕ, ◌≤◌, ◌-◌, ◌*◌, Bool, false, IsTrue, pos, List, Option, None}
use Rattle.sv_names.specs.declared.cursor.Each.{Each}
use Rattle.sv_names.specs.declared.cursor.Each.TheVariants.{Bit, Of}
use Rattle.sv_names.specs.declared.cursor.Cursor.{Cursor}
use Rattle.sv_names.specs.declared.cursor.Cursor.TheVariants.{Whole, Elements}
use Rattle.sv_names.specs.declared.cursor.Row.{Row}
use Rattle.sv_names.specs.declared.cursor.Part.{Part}
use Rattle.sv_names.specs.Kinds.{layout_is, IsSound}
use Rattle.sv_meaning.specs.Layouts as m
use Rattle.sv_meaning.specs.Meanings.{is_bound}

abbrev pub each_is : Each → m.Layout
each_is Bit = m.scalar false
each_is (Of x) = layout_is x.now

abbrev pub EachIsSound : Each → Type 0
EachIsSound Bit = Unit {0}
EachIsSound (Of x) = IsSound x.now

abbrev pub cursor_is : Cursor → m.Layout
cursor_is (Whole x) = each_is x
cursor_is (Elements s n each) = m.dim s (pos (n - 1)) (pos 0) (each_is each)

abbrev pub CursorIsSound : Cursor → Type 0
CursorIsSound (Whole x) = EachIsSound x
CursorIsSound (Elements s n each) = EachIsSound each × (1 ≤ n) × (n * m.width (each_is each) ≤ 128)

abbrev pub row_is : Bool → Row → m.Layout
row_is s row = m.dim s row.left row.right (each_is row.each)

pub record RowIsSound (row : Row) : Type 0 where
  pub each : EachIsSound row.each
  pub left : IsTrue (is_bound row.left)
  pub right : IsTrue (is_bound row.right)

abbrev pub IsNoRow : m.Layout → Type 0
IsNoRow (m.scalar s) = Unit {0}
IsNoRow (m.dim s l r each) = ⊥
IsNoRow (m.struct s all) = Unit {0}

abbrev pub part_is : Part → ℕ × m.Layout
part_is p = (p.place, layout_is p.layout.now)

abbrev pub member_of : List ℕ → m.Layout → Option (ℕ × m.Layout)
member_of n (m.struct s all) = m.member_in n all
member_of n x = None
