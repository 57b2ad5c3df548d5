-- What a reader holds once some lines are read, and what it does with one line more.
use Rattle.std.specs.Prelude.{◌≡◌, ◌≢◌, ◌<◌, ◌≤◌, ℕ, Bool, true, false, List, [], ◌++◌, length, map, Option, None, Some, All, IsTrue, slice_index}
use Rattle.lhs_alias.specs.Joined.{Kept, Stands, widths_of as widths_joined}
use Rattle.svex_shape.specs.declared.shape.Shape.{Shape}
use Rattle.svex_shape.specs.Shapes.{shape_at}
use Rattle.svex_arena.specs.Arenas.{IsArena}
use Rattle.svex_arena.specs.Substs.{renamed}
use Rattle.driver_resolve.specs.declared.driver.Driver.{Driver}
use Rattle.driver_resolve.specs.Drivers.{widths_of}
use Rattle.flat_net.specs.declared.flat.Flat.{Flat}
use Rattle.flat_net.specs.declared.flat.Join.{Join}
use Rattle.flat_net.specs.Flats.{links_of}
use Rattle.flat_text.specs.Lines.{Text, ended, text_of, lines_of}
use Rattle.flat_lines.specs.Fits.{FitsItem}
use Rattle.flat_text.specs.FlatTexts.{IsTold, IsUnbroken}
use Rattle.flat_lines.specs.Items.{Item, item_line}
use Rattle.flat_read.specs.declared.reader.Reader.{Reader}
use Rattle.flat_read.specs.Designs.{with_item, comes, front_of}

-- ---- what a reader holds

-- the joins made are these; none are made before the first
abbrev pub HasMade : Option Kept → List ℕ → List Join → Type 0
HasMade None widths joins = joins ≡ []
HasMade (Some made) widths joins = (joins ≢ []) × ((widths_joined made ≡ widths) × Stands made (links_of joins))

abbrev pub IsLaidFor : Option Kept → List ℕ → Type 0
IsLaidFor None widths = Unit {0}
IsLaidFor (Some made) widths = widths_joined made ≡ widths

-- what holds of a reader whatever it has read
pub record IsReader (r : Reader) : Type 0 where
  pub wide : All (λ w. (1 ≤ w) × (w ≤ 128)) r.widths.items
  pub laid : IsLaidFor r.made r.widths.items
  pub there : All (λ k. k < length r.arena) r.numbers.items

-- a driver over other nodes
abbrev pub over : List ℕ → Driver → Driver
over numbers d = record { target = d.target; value = slice_index numbers d.value }

-- Each node of the text stands in the graph, by its number there.
pub record AreNumbered (shown : List Shape) (arena : List Shape) (numbers : List ℕ) : Type 0 where
  pub as_many : length numbers ≡ length shown
  pub there : (k : ℕ) → k < length shown → slice_index numbers k < length arena
  pub same : (k : ℕ) → k < length shown → shape_at arena (slice_index numbers k) ≡ renamed (λ j. slice_index numbers j) (shape_at shown k)

-- a reader holds the design that some lines tell
pub record Holds (shown : Flat) (r : Reader) : Type 0 where
  pub told : IsTold shown
  pub wires : r.wires ≡ shown.wires
  pub widths : r.widths.items ≡ widths_of shown.wires
  pub joins : r.joins ≡ shown.joins
  pub made : HasMade r.made r.widths.items shown.joins
  pub arena : IsArena r.arena
  pub nodes : AreNumbered shown.arena r.arena r.numbers.items
  pub drivers : r.drivers ≡ map (over r.numbers.items) shown.drivers

-- ---- one line more

-- what is said of an answer
abbrev pub Judged : Bool → Type 0 → Type 0 → Type 0
Judged true P Q = P
Judged false P Q = Q

-- a design of the form goes on with this, and the reader holds the design with it
abbrev pub Added : Flat → Item → Reader → Type 0
Added shown x new = IsTrue (comes shown x) × Holds (with_item shown x) new

-- no design of the form goes on with this
abbrev pub CannotCome : Flat → Item → Type 0
CannotCome shown x = IsTrue (comes shown x) → IsTold (with_item shown x) → ⊥

-- the line says something of the kind that may come next, and the reader holds the design with it
pub record Took (A : Type 0) (make : A → Item) (Fits : A → Type 0) (print : A → Text) (shown : Flat) (text : Text) (new : Reader) : Type 0 where
  pub it : A
  pub is : text ≡ print it
  pub fits : Fits it
  pub added : Added shown (make it) new

-- no design of the form goes on with anything of the kind that the line says
pub record Refused (A : Type 0) (make : A → Item) (Fits : A → Type 0) (print : A → Text) (shown : Flat) (text : Text) : Type 0 where
  pub refused : (a : A) → text ≡ print a → Fits a → CannotCome shown (make a)

-- the line may come next, and the reader holds the design with it
pub record TookLine (shown : Flat) (text : Text) (new : Reader) : Type 0 where
  pub it : Item
  pub is : text ≡ item_line it
  pub fits : FitsItem it
  pub added : Added shown it new

-- no design of the form goes on with this line
pub record RefusedLine (shown : Flat) (text : Text) : Type 0 where
  pub refused : (x : Item) → text ≡ item_line x → FitsItem x → CannotCome shown x

-- ---- lines of a text

-- a line without a line feed, and what stands behind the line feed
pub record IsCut (text line rest : Text) : Type 0 where
  pub unbroken : IsUnbroken line
  pub is : text ≡ ended line ++ rest

-- The lines read so far tell a design, which the reader holds; they are so many.
pub record HasRead (whole rest : Text) (read : ℕ) (r : Reader) : Type 0 where
  pub shown : Flat
  pub holds : Holds shown r
  pub is : whole ≡ text_of (front_of shown) ++ rest
  pub count : read ≡ length (front_of shown)
  pub unbroken : All IsUnbroken (front_of shown)

-- all lines are read
pub record HasReadAll (whole : Text) (r : Reader) : Type 0 where
  pub shown : Flat
  pub holds : Holds shown r
  pub is : whole ≡ text_of (lines_of shown)

abbrev pub nothing_shown : Flat
nothing_shown = record { arena = []; wires = []; drivers = []; joins = [] }
