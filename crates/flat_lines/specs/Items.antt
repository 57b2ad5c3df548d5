-- Readers of lines: what a line says, if it has one of the forms.
use Rattle.std.specs.Prelude.{ℕ, zero, suc, ◌&&◌, nat_lt, nat_le, Bool, true, false, List, [], ◌∷◌, ◌++◌, length, codes, Option, None, Some}
use Rattle.std.specs.List.{list_all}
use Rattle.sv_outside.specs.declared.text.Signal.{Signal}
use Rattle.lhs_alias.specs.declared.segs.Seg.{Seg}
use Rattle.svex_shape.specs.declared.shape.Shape.{Shape}
use Rattle.driver_resolve.specs.declared.driver.Driver.{Driver}
use Rattle.flat_net.specs.declared.flat.Join.{Join}
use Rattle.flat_net.specs.Flats.{is_path_byte}
use Rattle.flat_text.specs.Lines.{Text, wire_line, join_line, node_line, drive_line}
use Rattle.flat_words.specs.Readers.{Reader, chain, behind, before, both, made, where_, closed, whole, byte, number}
use Rattle.flat_lines.specs.Shapes.{shape}

-- ---- targets

abbrev pub seg_of : (ℕ × (ℕ × ℕ)) → Seg
seg_of x = record { wire = x.0; lo = x.1.0; width = x.1.1 }

-- `WIRE[LO+:W]`
unfoldable pub seg : Reader Seg
seg t = made seg_of (both number (both (λ s. before (codes "[") byte s) (λ s. closed (λ r. before (codes "+:") byte r) (codes "]") s))) t

-- segments in front of those that are read
abbrev pub put_before : List Seg → Option (List Seg × Text) → Option (List Seg × Text)
put_before front None = None
put_before front (Some (more, rest)) = Some (front ++ more, rest)

-- all segments, if all are read
abbrev pub given : Bool → List Seg → Text → Option (List Seg × Text)
given true all rest = Some (all, rest)
given false all rest = None

abbrev pub segs_by : (Seg × Text → Option (List Seg × Text)) → Option Text → Reader (List Seg)
segs_by f (Some t) whole = chain (seg t) f
segs_by f None whole = Some ([], whole)

-- segments, each behind a comma; no more than so many
unfoldable pub segs : ℕ → Reader (List Seg)
segs zero t = Some ([], t)
segs (suc n) t = segs_by (λ x. put_before (x.0 ∷ []) (segs n x.1)) (behind (codes ",") t) t

-- LHS
unfoldable pub lhs : Reader (List Seg)
lhs t = chain (seg t) (λ x. put_before (x.0 ∷ []) (segs (length x.1) x.1))

-- ---- lines, behind the word that says their kind

abbrev pub is_width : ℕ → Bool
is_width w = nat_lt 0 w && nat_le w 128

abbrev pub all_printed : Text → Bool
all_printed t = list_all is_path_byte t

-- a path that is printed without a blank
abbrev pub is_path : Text → Bool
is_path t = nat_lt 0 (length t) && all_printed t

-- all that is left
abbrev pub path_by : Bool → ℕ → Bool → Text → Option Signal
path_by true w input t = Some (record { path = t; width = w; input = input })
path_by false w input t = None

abbrev pub kind_by : ℕ → Option Text → Option Text → Option Signal
kind_by w (Some t) other = path_by (is_path t) w true t
kind_by w None (Some t) = path_by (is_path t) w false t
kind_by w None None = None

-- `W in PATH` or `W net PATH`
unfoldable pub wire : Text → Option Signal
wire t = chain (where_ is_width byte t) (λ x. kind_by x.0 (behind (codes " in ") x.1) (behind (codes " net ") x.1))

abbrev pub join_of : (List Seg × List Seg) → Join
join_of x = record { child = x.0; parent = x.1 }

-- `LHS = LHS`
unfoldable pub join : Text → Option Join
join t = whole (λ s. made join_of (both lhs (λ r. before (codes " = ") lhs r)) s) t

unfoldable pub node : Text → Option Shape
node t = whole shape t

abbrev pub drive_of : (List Seg × ℕ) → Driver
drive_of x = record { target = x.0; value = x.1 }

-- `LHS = K`
unfoldable pub drive : Text → Option Driver
drive t = whole (λ s. made drive_of (both lhs (λ r. before (codes " = ") number r)) s) t

-- ---- what a line says

pub data Item : Type 0 where
  a_wire : Signal → Item
  a_join : Join → Item
  a_node : Shape → Item
  a_drive : Driver → Item
  the_end : Item

abbrev pub item_line : Item → Text
item_line (a_wire s) = wire_line s
item_line (a_join j) = join_line j
item_line (a_node s) = node_line s
item_line (a_drive d) = drive_line d
item_line the_end = codes "end"
