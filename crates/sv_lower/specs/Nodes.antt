-- Nodes that are made of others.
use Rattle.std.specs.Prelude.{◌≡◌, ℕ, ◌<◌, ◌≤◌, ◌+◌, Bool, List, ◌++◌, length, IsTrue, ℤ}
use Rattle.fourvec.specs.declared.Bit.{Bit}
use Rattle.fourvec.specs.Bits.{all_x, slice_of}
use Rattle.fourvec.specs.Spots.{window}
use Rattle.svex_shape.specs.declared.shape.VarName.{VarName}
use Rattle.svex_shape.specs.declared.shape.Shape.{Shape}
use Rattle.svex_shape.specs.Shapes.{width_at, width_of}
use Rattle.svex_shape.specs.Values.{Reading, value_at, value_of, each_variable, each_variable_of}
use Rattle.driver_resolve.specs.Drivers.{bitwise}

-- the bits of a node, where variables have such bits
abbrev pub bits_at_node : (VarName → ℕ → Bit) → List Shape → ℕ → List Bit
bits_at_node bits shapes k = value_at (bitwise bits) shapes k

-- a node of a later arena has a shape over the nodes of an older one
pub record IsMade (old : List Shape) (shape : Shape) (new : List Shape) (node : ℕ) : Type 0 where
  pub within : node < length new
  pub width : width_at new node ≡ width_of (width_at old) shape
  pub value : (r : Reading) → value_at r new node ≡ value_of r (value_at r old) shape
  pub variables : (p : VarName → ℕ → Bool) → each_variable p new node ≡ each_variable_of p (each_variable p old) shape

-- a node is constant, with these bits
pub record IsConstant (new : List Shape) (v : List Bit) (node : ℕ) : Type 0 where
  pub within : node < length new
  pub width : width_at new node ≡ length v
  pub value : (bits : VarName → ℕ → Bit) → bits_at_node bits new node ≡ v
  pub mentions : (p : VarName → ℕ → Bool) → IsTrue (each_variable p new node)

-- A node of a later arena has so many bits, has what an operator gives of the bits of older nodes, and mentions no variable that
-- these do not.
pub record FromOne (old new : List Shape) (f : List Bit → List Bit) (a w node : ℕ) : Type 0 where
  pub within : node < length new
  pub width : width_at new node ≡ w
  pub value : (bits : VarName → ℕ → Bit) → bits_at_node bits new node ≡ f (bits_at_node bits old a)
  pub mentions : (p : VarName → ℕ → Bool) → IsTrue (each_variable p old a) → IsTrue (each_variable p new node)

pub record FromTwo (old new : List Shape) (f : List Bit → List Bit → List Bit) (a b w node : ℕ) : Type 0 where
  pub within : node < length new
  pub width : width_at new node ≡ w
  pub value : (bits : VarName → ℕ → Bit) → bits_at_node bits new node ≡ f (bits_at_node bits old a) (bits_at_node bits old b)
  pub mentions : (p : VarName → ℕ → Bool) → IsTrue (each_variable p old a) → IsTrue (each_variable p old b) → IsTrue (each_variable p new node)

pub record FromThree (old new : List Shape) (f : List Bit → List Bit → List Bit → List Bit) (c a b w node : ℕ) : Type 0 where
  pub within : node < length new
  pub width : width_at new node ≡ w
  pub value : (bits : VarName → ℕ → Bit) → bits_at_node bits new node ≡ f (bits_at_node bits old c) (bits_at_node bits old a) (bits_at_node bits old b)
  pub mentions : (p : VarName → ℕ → Bool) → IsTrue (each_variable p old c) → IsTrue (each_variable p old a) → IsTrue (each_variable p old b) → IsTrue (each_variable p new node)

-- How the part of a width from a place on lies over a vector of a size: so many bits are X below it, then come its bits from `lo` on,
-- and the rest are X above it.
pub record IsSpan (size : ℕ) (place : ℤ) (width below lo inside above : ℕ) : Type 0 where
  pub sum : below + (inside + above) ≡ width
  pub within : lo + inside ≤ size
  pub gives : (v : List Bit) → length v ≡ size → window v place width ≡ all_x below ++ (slice_of v lo inside ++ all_x above)
