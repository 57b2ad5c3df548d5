-- Words of the inner functions: variables that stand for a valuation, and nodes made of them.
use Rattle.std.specs.Prelude.{◌≡◌, ◌<◌, ◌≤◌, ◌+◌, ℕ, List, [], ◌++◌, length, map, All, Option, Some, None, slice_index_or, IsTrue}
use Rattle.fourvec.specs.declared.Bit.{Bit}
use Rattle.fourvec.specs.declared.Bit.TheVariants.{Unknown}
use Rattle.fourvec.specs.Bits.{bit_of, is_one, is_known_bit}
use Rattle.lhs_alias.specs.Lies.{LieIn}
use Rattle.lhs_alias.specs.Segs.{lhs_bits}
use Rattle.lhs_alias.specs.declared.segs.WireBit.{WireBit}
use Rattle.lhs_alias.specs.declared.segs.Seg.{Seg}
use Rattle.settling.specs.Settling.{Store, value_at as value_in}
use Rattle.sv_outside.specs.declared.text.Signal.{Signal}
use Rattle.svex_shape.specs.declared.shape.Shape.{Shape}
use Rattle.svex_shape.specs.Shapes.{width_at}
use Rattle.svex_shape.specs.Values.{Vector, value_at}
use Rattle.svtv_table.specs.Stimuli.{IsChoice, given}
use Rattle.svtv_table.specs.declared.bound.Bound.{Bound}
use Rattle.svtv_table.specs.declared.bound.VarDecl.{VarDecl}
use Rattle.svtv_unroll.specs.Unrolled.{IsOverVars, under_choice, vector_of}

-- ---- variables

abbrev pub state_var : Signal → VarDecl
state_var w = record { name = []; width = w.width }

abbrev pub state_vars : List Signal → List VarDecl
state_vars wires = map state_var wires

-- two variables for each wire
abbrev pub with_vars : Bound → List Signal → Bound
with_vars bound wires = record bound { vars = (bound.vars ++ state_vars wires) ++ state_vars wires }

-- ---- the valuation that they stand for

-- the bit of two planes: 1 and 0 where they agree, X where the first alone is 1, and Z where the second is
abbrev pub made_of : Bit → Bit → Bit
made_of up low = bit_of (is_one up) (is_one low)

-- what the variables of a wire make of its bits, where so many stand in front of them, of so many wires
abbrev pub own_state : List (List Bit) → ℕ → ℕ → Store
own_state choice before wires n k =
    made_of (slice_index_or (given choice (before + n)) k Unknown) (slice_index_or (given choice (before + wires + n)) k Unknown)

-- each bit as the first one of its class
abbrev pub joined_state : (WireBit → WireBit) → Store → Store
joined_state first own n k = value_in own (first (record { wire = n; at = k }))

-- ---- nodes

-- a node over the variables alone, which has this value under each choice
pub record HasValue (vars : List VarDecl) (shapes : List Shape) (width : ℕ) (f : List (List Bit) → Vector) (node : ℕ) : Type 0 where
  pub over : IsOverVars vars shapes width node
  pub value : (choice : List (List Bit)) → IsChoice vars choice → value_at (under_choice choice) shapes node ≡ f choice

abbrev pub width_of_var : List VarDecl → ℕ → ℕ
width_of_var vars number = slice_index_or (map (λ (v : VarDecl). v.width) vars) number 0

-- there is a variable of this number and width
pub record IsWide (vars : List VarDecl) (width number : ℕ) : Type 0 where
  pub there : number < length vars
  pub wide : width_of_var vars number ≡ width

abbrev pub bit_in : List (List Bit) → ℕ → ℕ → Bit
bit_in choice number k = slice_index_or (given choice number) k Unknown

-- the bit is 0 or 1 under each choice
abbrev pub IsTold : List VarDecl → (List (List Bit) → Bit) → Type 0
IsTold vars f = (choice : List (List Bit)) → IsChoice vars choice → IsTrue (is_known_bit (f choice))

-- the bits that two variables make
abbrev pub own_bits : ℕ → ℕ → List (List Bit) → ℕ → Bit
own_bits first second choice k = made_of (bit_in choice first k) (bit_in choice second k)

-- the bits of a list in a valuation
abbrev pub bits_in : Store → List WireBit → Vector
bits_in s bits = map (value_in s) bits

-- the variables have two of each wire, the first ones from one number on
pub record HaveWires (vars : List VarDecl) (widths : List ℕ) (before : ℕ) : Type 0 where
  pub first : (n : ℕ) → n < length widths → IsWide vars (slice_index_or widths n 0) (before + n)
  pub second : (n : ℕ) → n < length widths → IsWide vars (slice_index_or widths n 0) (before + length widths + n)

-- a node for each of the first so many wires, which has what the variables make of it
pub record AreOwn (vars : List VarDecl) (shapes : List Shape) (widths : List ℕ) (before : ℕ) (nodes : List ℕ) (count : ℕ) : Type 0 where
  pub as_many : length nodes ≡ count
  pub each : (n : ℕ) → n < count → HasValue vars shapes (slice_index_or widths n 0) (λ choice. vector_of (own_state choice before (length widths) n) (slice_index_or widths n 0)) (slice_index_or nodes n 0)

-- a node with so many bits
pub record IsSized (shapes : List Shape) (width node : ℕ) : Type 0 where
  pub there : node < length shapes
  pub wide : width_at shapes node ≡ width

-- the segment is a part of the node of its wire
pub record IsPartOf (shapes : List Shape) (nodes : List ℕ) (s : Seg) : Type 0 where
  pub wire : s.wire < length nodes
  pub there : slice_index_or nodes s.wire 0 < length shapes
  pub some : 1 ≤ s.width
  pub within : s.lo + s.width ≤ width_at shapes (slice_index_or nodes s.wire 0)

-- each is, and together they have 1 to 128 bits
pub record ArePartsOf (shapes : List Shape) (nodes : List ℕ) (segs : List Seg) : Type 0 where
  pub some : 0 < length segs
  pub most : length (lhs_bits segs) ≤ 128
  pub each : All (IsPartOf shapes nodes) segs

-- Where nodes are what variables make of the wires of a graph, this node of a later one has the bits of these segments.
abbrev pub HasParts : List Shape → List ℕ → List Seg → List Shape → ℕ → Type 0
HasParts old nodes segs new node = (vars : List VarDecl) (widths : List ℕ) (before : ℕ) → AreOwn vars old widths before nodes (length widths) → LieIn widths segs
    → HasValue vars new (length (lhs_bits segs)) (λ choice. bits_in (own_state choice before (length widths)) (lhs_bits segs)) node

-- of each wire segments of the wires that are together as wide as it
pub record AreWideFirsts (widths : List ℕ) (firsts : List (List Seg)) : Type 0 where
  pub many : length firsts ≡ length widths
  pub lie : (n : ℕ) → n < length widths → LieIn widths (slice_index_or firsts n [])
  pub wide : (n : ℕ) → n < length widths → length (lhs_bits (slice_index_or firsts n [])) ≡ slice_index_or widths n 0

-- a row that has, of each of the first so many wires, the bits of its list
pub record AreJoined (vars : List VarDecl) (shapes : List Shape) (widths : List ℕ) (before : ℕ) (firsts : List (List Seg)) (row : List (Option ℕ)) (count : ℕ) : Type 0 where
  pub as_many : length row ≡ count
  pub each : (n : ℕ) → n < count → (m : ℕ) × (slice_index_or row n None ≡ Some m)
      × HasValue vars shapes (slice_index_or widths n 0) (λ choice. bits_in (own_state choice before (length widths)) (lhs_bits (slice_index_or firsts n []))) m
