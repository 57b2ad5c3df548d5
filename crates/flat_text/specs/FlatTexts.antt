-- Which flat design a text stands for, and where a text that stands for none breaks the form.
use Rattle.std.specs.Prelude.{◌≡◌, ◌≢◌, ◌⊎◌, ℕ, ◌+◌, ◌-◌, ◌^◌, ◌<◌, ◌≤◌, ◌&&◌, ℤ, pos, negsuc, int_le, int_lt, Bool, List, [], ◌∷◌, ◌++◌, length, take, codes, All, IsTrue}
use Rattle.std.specs.List.{AllZip}
use Rattle.fourvec.specs.declared.Bit.{Bit}
use Rattle.fourvec.specs.declared.Spot.{Spot}
use Rattle.svex_shape.specs.declared.shape.VarName.{VarName}
use Rattle.svex_shape.specs.declared.shape.Un.{Un}
use Rattle.svex_shape.specs.declared.shape.Bin.{Bin}
use Rattle.svex_shape.specs.declared.shape.Shape.{Shape}
use Rattle.svex_shape.specs.declared.shape.Shape.TheVariants.{Const, Var, Unary, Binary, Cond, Pick, Slice, Zext, Sext, DynSlice, DynPut}
use Rattle.svex_shape.specs.Shapes.{shape_at, at_node, ChildrenBelow, FitsWidths, width_at}
use Rattle.driver_resolve.specs.declared.driver.Driver.{Driver}
use Rattle.driver_resolve.specs.Drivers.{widths_of, is_of_wires}
use Rattle.flat_net.specs.declared.flat.Flat.{Flat}
use Rattle.flat_net.specs.Flats.{IsFlat}
use Rattle.flat_text.specs.Lines.{Text, lines_of, text_of}

-- ---- expressions

-- An expression, with no numbers of nodes.
pub data Expr : Type 0 where
  const : List Bit → Expr
  var : VarName → ℕ → Expr
  unary : Un → Expr → Expr
  binary : Bin → Expr → Expr → Expr
  cond : Expr → Expr → Expr → Expr
  pick : Expr → Expr → Expr → Expr
  slice : Expr → ℕ → ℕ → Expr
  zext : Expr → ℕ → Expr
  sext : Expr → ℕ → Expr
  dyn_slice : Expr → Expr → Spot → Expr
  dyn_put : Expr → Expr → Spot → Expr → Expr

-- what a shape says, over what its children say
unfoldable pub expr_of : (ℕ → Expr) → Shape → Expr
expr_of f (Const v) = const v
expr_of f (Var name w) = var name w
expr_of f (Unary op a) = unary op (f a)
expr_of f (Binary op a b) = binary op (f a) (f b)
expr_of f (Cond c a b) = cond (f c) (f a) (f b)
expr_of f (Pick c a b) = pick (f c) (f a) (f b)
expr_of f (Slice a lo w) = slice (f a) lo w
expr_of f (Zext a w) = zext (f a) w
expr_of f (Sext a w) = sext (f a) w
expr_of f (DynSlice a at spot) = dyn_slice (f a) (f at) spot
expr_of f (DynPut a at spot put) = dyn_put (f a) (f at) spot (f put)

-- the expression that a node names, read through the nodes named there
abbrev pub expr_at : List Shape → ℕ → Expr
expr_at shapes k = at_node expr_of (const []) shapes k

-- ---- what a text tells

-- a number of 64 bits with a sign
abbrev pub is_long : ℤ → Bool
is_long i = int_le (negsuc (2 ^ 63 - 1)) i && int_lt i (pos (2 ^ 63))

-- EACH is a byte, and ADD a number of 64 bits with a sign
abbrev pub FitsSpot : Spot → Type 0
FitsSpot s = (s.each < 256) × IsTrue (is_long s.add)

-- EACH and ADD of a shape that has them
abbrev pub HasSpot : Shape → Type 0
HasSpot (DynSlice a at spot) = FitsSpot spot
HasSpot (DynPut a at spot put) = FitsSpot spot
HasSpot shape = Unit {0}

-- The shape may stand in a node line over wires of these widths: what it reads is the present or the previous value of a wire, at
-- the wire's width.
abbrev pub HasLine : List ℕ → Shape → Type 0
HasLine widths (Var name w) = IsTrue (is_of_wires widths name w)
HasLine widths shape = HasSpot shape

-- Each node names earlier nodes only, of widths that fit its shape, and has 1 to 128 bits. Nodes may be unreached, repeated and in
-- any such order.
pub record AreNodes (shapes : List Shape) : Type 0 where
  pub children : (k : ℕ) → k < length shapes → ChildrenBelow k (shape_at shapes k)
  pub fits : (k : ℕ) → k < length shapes → FitsWidths (width_at shapes) (shape_at shapes k)
  pub some : (k : ℕ) → k < length shapes → 0 < width_at shapes k
  pub most : (k : ℕ) → k < length shapes → width_at shapes k ≤ 128

-- The lines tell a design, whose nodes are those of the text, by their numbers there; and its wires, joins and drivers are well formed.
pub record IsTold (shown : Flat) : Type 0 where
  pub nodes : AreNodes shown.arena
  pub forms : All (HasLine (widths_of shown.wires)) shown.arena
  pub sound : IsFlat shown

-- the same target, and the same expression
pub record SameDriver (nodes shapes : List Shape) (shown d : Driver) : Type 0 where
  pub target : shown.target ≡ d.target
  pub value : expr_at nodes shown.value ≡ expr_at shapes d.value

-- The lines of a text are those of a design with the wires and joins of this one and its drivers, in order. Numbers of nodes, and
-- nodes that are repeated, do not count.
pub record FlatText (text : Text) (flat : Flat) : Type 0 where
  pub shown : Flat
  pub told : IsTold shown
  pub is : text ≡ text_of (lines_of shown)
  pub wires : shown.wires ≡ flat.wires
  pub joins : shown.joins ≡ flat.joins
  pub drivers : AllZip (SameDriver shown.arena flat.arena) shown.drivers flat.drivers

-- ---- where a text breaks the form

-- no line feed
abbrev pub IsUnbroken : Text → Type 0
IsUnbroken line = All (λ b. b ≢ 10) line

-- the lines of a text, and what stands behind its last line feed
pub record AreLinesOf (text : Text) (lines : List Text) (rest : Text) : Type 0 where
  pub is : text ≡ text_of lines ++ rest
  pub lines_unbroken : All IsUnbroken lines
  pub rest_unbroken : IsUnbroken rest

-- all lines of a design
pub record AreLines (lines : List Text) : Type 0 where
  pub shown : Flat
  pub told : IsTold shown
  pub are : lines ≡ lines_of shown

-- The lines keep the form so far: they are none, or all lines of a design, or all but the last, which is `end`.
abbrev pub Begin : List Text → Type 0
Begin lines = (lines ≡ []) ⊎ (AreLines lines ⊎ AreLines (lines ++ (codes "end" ∷ [])))

-- Line n, counted from 1, is the first that is missing or breaks the form: the lines before it keep the form, and with it they do not.
-- What stands behind the last line feed is no line, and breaks the form. Line n is missing where there is no more text, and `end` has
-- not been seen.
pub record BreaksAt (text : Text) (n : ℕ) : Type 0 where
  pub lines : List Text
  pub rest : Text
  pub split : AreLinesOf text lines rest
  pub some : 1 ≤ n
  pub within : n ≤ length lines + 1
  pub before : Begin (take (n - 1) lines)
  pub broken : n ≤ length lines → ¬ Begin (take n lines)
  pub missing : n ≡ length lines + 1 → rest ≡ [] → ¬ AreLines lines
