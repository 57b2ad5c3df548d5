-- Signals that are wires of a design, the wires of connected ports, and paths.
use Rattle.std.specs.Prelude.{◌≡◌, ℕ, ◌==◌, ◌<◌, ◌≤◌, Bool, true, false, List, [], ◌∷◌, ◌++◌, length, map, slice_index_or, All, IsTrue}
use Rattle.std.specs.List.{list_all, slice_split}
use Rattle.sv_outside.specs.declared.text.Signal.{Signal}
use Rattle.sv_outside.specs.Words.{begins_with}
use Rattle.sv_meaning.specs.Layouts.{Name, of_wires, NamedSignal}
use Rattle.sv_outside.specs.Paths.{is_path_byte}
use Rattle.sv_hierarchy.specs.Scopes.{Task, assigning, running, connecting, Standing}

abbrev pub widths : List Signal → List ℕ
widths wires = map (λ w. w.width) wires

-- A signal is a wire of this number and width.
pub record IsWire (wires : List Signal) (s : NamedSignal) : Type 0 where
  pub owner : s.owner ≡ of_wires
  pub there : s.number < length wires
  pub width : slice_index_or (widths wires) s.number 0 ≡ s.width

-- the wire of the port that a task connects
abbrev pub port_wire : Task → List ℕ
port_wire (assigning to x) = []
port_wire (running b) = []
port_wire (connecting way n x actual) = n ∷ []

-- the wires of connected ports, in the order of the works
unfoldable pub connected_wires : List Standing → List ℕ
connected_wires [] = []
connected_wires (w ∷ more) = port_wire w.task ++ connected_wires more

-- a path: bytes, of which each is printed
pub record IsPath (path : Name) : Type 0 where
  pub some : 1 ≤ length path
  pub printed : All (λ b. IsTrue (is_path_byte b)) path

-- each wire has a path
abbrev pub HavePaths : List Signal → Type 0
HavePaths wires = All (λ w. IsPath w.path) wires

abbrev pub is_dot : ℕ → Bool
is_dot b = b == 46

-- what stands between the dots of a path
abbrev pub parts_of : Name → List Name
parts_of path = slice_split is_dot path

-- a part of a path: printed bytes, of which the first is neither `$` nor `[`
pub record IsPart (part : Name) : Type 0 where
  pub some : 0 < length part
  pub printed : list_all is_path_byte part ≡ true
  pub no_dollar : begins_with 36 part ≡ false
  pub no_bracket : begins_with 91 part ≡ false

-- the path of each wire has such parts
abbrev pub HaveParts : List Signal → Type 0
HaveParts wires = All (λ w. All IsPart (parts_of w.path)) wires
