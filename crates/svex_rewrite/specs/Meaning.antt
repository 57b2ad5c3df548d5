-- Shapes and nodes with one meaning.
use Rattle.std.specs.Prelude.{◌≡◌, ℕ, ◌<◌, ◌≤◌, Bool, true, false, List, length, slice_index, replicate, Option, Some, None, IsTrue, if◌then◌else◌, ℤ, pos, neg_ℤ, ◌+ℤ◌}
use Rattle.fourvec.specs.declared.Bit.{Bit}
use Rattle.fourvec.specs.declared.Spot.{Spot}
use Rattle.fourvec.specs.Bits.{unfloat_of}
use Rattle.svex_shape.specs.declared.shape.VarName.{VarName}
use Rattle.svex_shape.specs.declared.shape.Un.{Un}
use Rattle.svex_shape.specs.declared.shape.Un.TheVariants.{Not, Neg}
use Rattle.svex_shape.specs.declared.shape.Bin.{Bin}
use Rattle.svex_shape.specs.declared.shape.Bin.TheVariants.{Res, Shl, Shr, Sar, Concat}
use Rattle.svex_shape.specs.declared.shape.Shape.{Shape}
use Rattle.svex_shape.specs.declared.shape.Shape.TheVariants.{Const}
use Rattle.svex_shape.specs.Shapes.{shape_at, width_of, width_at}
use Rattle.svex_shape.specs.Values.{Vector, Reading, HasWidths, value_of, value_at, each_variable_of, each_variable}
use Rattle.svex_arena.specs.Arenas.{IsArena}
use Rattle.svex_arena.specs.Marks.{IsMarked, IsClosed}
pub use Rattle.svex_rewrite.specs.Becoming.{IsOver, KeepsMeaning, HasShape}
unfoldable pub use Rattle.svex_rewrite.specs.Becoming.{Becomes}

-- a node of a later arena has the meaning of a shape
pub record Makes (old : List Shape) (s : Shape) (new : List Shape) (node : ℕ) : Type 0 where
  pub within : node < length new
  pub width : width_at new node ≡ width_of (width_at old) s
  pub value : (r : Reading) → HasWidths r → value_at r new node ≡ value_of r (value_at r old) s
  pub mentions : (p : VarName → ℕ → Bool) → IsTrue (each_variable_of p (each_variable p old) s) → IsTrue (each_variable p new node)

-- A node has the width of another and, whatever the variables have, its value, and mentions no other variable, nor one at
-- another width.
pub record StandsFor (old : List Shape) (k : ℕ) (new : List Shape) (node : ℕ) : Type 0 where
  pub within : node < length new
  pub width : width_at new node ≡ width_at old k
  pub value : (r : Reading) → HasWidths r → value_at r new node ≡ value_at r old k
  pub mentions : (p : VarName → ℕ → Bool) → IsTrue (each_variable p old k) → IsTrue (each_variable p new node)

-- the vector of a shape that is constant
abbrev pub constant_of : Shape → Option Vector
constant_of (Const v) = Some v
constant_of s = None

-- a node is constant, with one bit everywhere
pub record IsAllAt (shapes : List Shape) (k : ℕ) (bit : Bit) : Type 0 where
  pub is : shape_at shapes k ≡ Const (replicate (width_at shapes k) bit)

-- whatever its children have, a shape has no bit that is Z
unfoldable pub GivesNoZ : Shape → Type 0
GivesNoZ s = (r : Reading) (f : ℕ → Vector) → unfloat_of (value_of r f s) ≡ value_of r f s

-- a node has no bit that is Z
unfoldable pub HasNoZ : List Shape → ℕ → Type 0
HasNoZ shapes k = (r : Reading) → unfloat_of (value_at r shapes k) ≡ value_at r shapes k

-- an operator passes bits of its operands on as they are, Z too
abbrev pub passes_z : Bin → Bool
passes_z Res = true
passes_z Shl = true
passes_z Shr = true
passes_z Sar = true
passes_z Concat = true
passes_z op = false

-- an operator leaves one bit as it is, but that Z becomes X
abbrev pub leaves_one_bit : Un → Bool
leaves_one_bit Not = false
leaves_one_bit Neg = false
leaves_one_bit op = true

-- where a part begins whose index is so many bits from 0
abbrev pub place_from : Spot → ℕ → ℤ
place_from spot far = (if spot.negate then neg_ℤ (pos far) else pos far) +ℤ spot.add

-- each of the first nodes that is marked has a node that stands for it
pub record IsSimplified (len : ℕ) (shapes : List Shape) (marks : List Bool) (done : List ℕ) : Type 0 where
  pub arena : IsArena shapes
  pub long : len ≤ length shapes
  pub size : length marks ≡ len
  pub closed : IsClosed shapes marks 0
  pub is : (k : ℕ) → k < length done → k < len → IsMarked marks k → StandsFor shapes k shapes (slice_index done k)
