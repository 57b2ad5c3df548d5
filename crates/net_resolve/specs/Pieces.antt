-- Nodes that are made of what sources give to neighbouring bits.
use Rattle.std.specs.Prelude.{◌≡◌, ◌↔◌, ◌⊎◌, ◌&&◌, Bool, ℕ, ◌+◌, ◌<◌, ◌≤◌, List, [], length, map, All, IsTrue, slice_index, slice_index_or}
use Rattle.std.specs.List.{Contains, range_with_len}
use Rattle.fourvec.specs.declared.Bit.{Bit}
use Rattle.fourvec.specs.declared.Bit.TheVariants.{Unknown}
use Rattle.settling.specs.Events.{resolved}
use Rattle.lhs_alias.specs.declared.segs.Seg.{Seg}
use Rattle.svex_shape.specs.declared.shape.Shape.{Shape}
use Rattle.svex_shape.specs.declared.shape.Bin.{Bin}
use Rattle.svex_shape.specs.declared.shape.VarName.{VarName}
use Rattle.svex_shape.specs.declared.shape.VarName.TheVariants.{Stim}
use Rattle.svex_shape.specs.Shapes.{width_at, binary_width}
use Rattle.svex_shape.specs.Values.{Vector, Reading, value_at, each_variable, binary_value}
use Rattle.driver_resolve.specs.Drivers.{Phase, reading, is_of_wires}
use Rattle.event_nets.specs.declared.gift.Gift.{Gift}
use Rattle.event_nets.specs.declared.gift.Source.{Source}
use Rattle.event_nets.specs.declared.gift.Source.TheVariants.{Value, Stimulus}
use Rattle.net_equations.specs.Equations.{is_of_phase, seg_at}
use Rattle.net_equations.specs.Groups.{Mentions}

-- ---- sources

-- the node is there and mentions wires alone, or the wire is there
abbrev pub HasSource : List ℕ → List Shape → Source → Type 0
HasSource widths shapes (Value k) = (k < length shapes) × IsTrue (each_variable (is_of_wires widths) shapes k)
HasSource widths shapes (Stimulus n) = n < length widths

abbrev pub source_width : List ℕ → List Shape → Source → ℕ
source_width widths shapes (Value k) = width_at shapes k
source_width widths shapes (Stimulus n) = slice_index_or widths n 0

abbrev pub source_value : List ℕ → List Shape → Source → Phase → Vector
source_value widths shapes (Value k) p = value_at (reading p) shapes k
source_value widths shapes (Stimulus n) p = reading p (Stim n) (slice_index_or widths n 0)

-- its source has so many bits from the gift's on
pub record IsWithin (widths : List ℕ) (shapes : List Shape) (width : ℕ) (g : Gift) : Type 0 where
  pub source : HasSource widths shapes g.from
  pub ends : g.at + width ≤ source_width widths shapes g.from

-- ---- rows of gifts

-- what is given to the class at a place
abbrev pub row_at : List (List Gift) → ℕ → List Gift
row_at rows place = slice_index_or rows place []

-- the bit of the same source so far above
pub record IsMoved (by : ℕ) (a b : Gift) : Type 0 where
  pub from : a.from ≡ b.from
  pub at : a.at + by ≡ b.at

-- as many gifts, each so far above the other at its place
pub record AreMoved (by : ℕ) (a b : List Gift) : Type 0 where
  pub as_many : length a ≡ length b
  pub each : (i : ℕ) (c d : Gift) → i < length a → IsMoved by (slice_index_or a i c) (slice_index_or b i d)

-- one gift at least, and each source has its bit
pub record IsGivenRow (widths : List ℕ) (shapes : List Shape) (row : List Gift) : Type 0 where
  pub some : 1 ≤ length row
  pub within : All (IsWithin widths shapes 1) row

-- something is given to each of so many classes, from a place on
pub record IsGivenRun (widths : List ℕ) (shapes : List Shape) (rows : List (List Gift)) (low width : ℕ) : Type 0 where
  pub some : 1 ≤ width
  pub most : width ≤ 128
  pub inside : low + width ≤ length rows
  pub given : (j : ℕ) → j < width → IsGivenRow widths shapes (row_at rows (low + j))

-- ---- what is given

-- the bit of a gift's source so far above the gift's
abbrev pub bit_of : List ℕ → List Shape → Phase → ℕ → Gift → Bit
bit_of widths shapes p by g = slice_index_or (source_value widths shapes g.from p) (g.at + by) Unknown

-- the resolution of a row's bits, so far above
abbrev pub row_bit : List ℕ → List Shape → Phase → ℕ → List Gift → Bit
row_bit widths shapes p by row = resolved (map (bit_of widths shapes p by) row)

-- bits from the gift's on
abbrev pub part_value : List ℕ → List Shape → Gift → ℕ → Phase → Vector
part_value widths shapes g width p = map (λ j. bit_of widths shapes p j g) (range_with_len 0 width)

-- the same of a whole row, resolved
abbrev pub row_value : List ℕ → List Shape → List Gift → ℕ → Phase → Vector
row_value widths shapes row width p = map (λ j. row_bit widths shapes p j row) (range_with_len 0 width)

-- what is given to so many classes from a place on, resolved
abbrev pub run_value : List ℕ → List Shape → List (List Gift) → ℕ → ℕ → Phase → Vector
run_value widths shapes rows low width p = map (λ j. row_bit widths shapes p 0 (row_at rows (low + j))) (range_with_len 0 width)

-- ---- nodes

-- one of these gifts is of a node that mentions the present value of a wire
pub record SomeMentions (shapes : List Shape) (From : Gift → Type 0) (wire : ℕ) : Type 0 where
  pub gift : Gift
  pub is : From gift
  pub node : ℕ
  pub from : gift.from ≡ Value node
  pub mentions : Mentions shapes node wire

-- A node of a later arena has so many bits and this value in each phase, is over the valuations of a phase alone, and mentions in
-- the present exactly the wires that some of the gifts do.
pub record IsMade (widths : List ℕ) (old : List Shape) (From : Gift → Type 0) (width : ℕ) (value_of : Phase → Vector) (new : List Shape) (node : ℕ) : Type 0 where
  pub there : node < length new
  pub wide : width_at new node ≡ width
  pub value : (p : Phase) → value_at (reading p) new node ≡ value_of p
  pub phase : IsTrue (each_variable (is_of_phase widths) new node)
  pub mentions : (wire : ℕ) → Mentions new node wire ↔ SomeMentions old From wire

-- A node of a later arena is an operator on two nodes of an older one: their values make its own, and it mentions what they do.
pub record IsPair (op : Bin) (old new : List Shape) (a b node : ℕ) : Type 0 where
  pub there : node < length new
  pub wide : width_at new node ≡ binary_width op (width_at old a) (width_at old b)
  pub value : (r : Reading) → value_at r new node ≡ binary_value op (value_at r old a) (value_at r old b)
  pub variables : (p : VarName → ℕ → Bool) → each_variable p new node ≡ (each_variable p old a && each_variable p old b)
  pub mentions : (wire : ℕ) → Mentions new node wire ↔ (Mentions old a wire ⊎ Mentions old b wire)

-- one gift alone
abbrev pub IsOne : Gift → Gift → Type 0
IsOne one g = g ≡ one

-- the gift's source as a node
abbrev pub IsSource : List ℕ → List Shape → Gift → List Shape → ℕ → Type 0
IsSource widths old g new node = IsMade widths old (IsOne g) (source_width widths old g.from) (source_value widths old g.from) new node

-- a gift to one of so many classes from a place on
pub record HasInRun (rows : List (List Gift)) (low width : ℕ) (g : Gift) : Type 0 where
  pub above : ℕ
  pub below : above < width
  pub is : Contains (row_at rows (low + above)) g

-- a node for each of the nets, whose lowest bits have these places
pub record AreMade (widths : List ℕ) (old : List Shape) (rows : List (List Gift)) (nets : List ℕ) (segs : List Seg) (new : List Shape) (nodes : List ℕ) : Type 0 where
  pub as_many : length nodes ≡ length segs
  pub each : (i : ℕ) → i < length segs
      → IsMade widths old (HasInRun rows (slice_index nets i) (seg_at segs i).width) (seg_at segs i).width
      (run_value widths old rows (slice_index nets i) (seg_at segs i).width) new (slice_index nodes i)
