-- Which nodes some roots reach, and marks on them.
use Rattle.std.specs.Prelude.{◌≡◌, ℕ, ◌<◌, ◌≤◌, Bool, true, false, List, length, slice_index, slice_index_or, slice_set}
use Rattle.svex_shape.specs.declared.shape.Shape.{Shape}
use Rattle.svex_shape.specs.declared.shape.Shape.TheVariants.{Const, Var, Unary, Binary, Cond, Pick, Slice, Zext, Sext, DynSlice, DynPut}
use Rattle.svex_shape.specs.Shapes.{OnChildren, IsChild, ChildrenBelow, shape_at}

-- the roots reach a node: it is one of them, or a child of a node that they reach
pub data IsReached (shapes : List Shape) (roots : List ℕ) : ℕ → Type 0 where
  as_root : (i k : ℕ) → i < length roots → slice_index roots i ≡ k → IsReached shapes roots k
  as_child : (j k : ℕ) → IsReached shapes roots j → IsChild k (shape_at shapes j) → IsReached shapes roots k

abbrev pub IsMarked : List Bool → ℕ → Type 0
IsMarked marks k = slice_index_or marks k false ≡ true

-- the first n roots are marked
pub record HasRoots (roots : List ℕ) (marks : List Bool) (n : ℕ) : Type 0 where
  pub marked_roots : (i : ℕ) → i < n → IsMarked marks (slice_index roots i)

-- from a number on, the children of marked nodes are marked
pub record IsClosed (shapes : List Shape) (marks : List Bool) (from : ℕ) : Type 0 where
  pub children : (k : ℕ) → from ≤ k → k < length marks → IsMarked marks k → OnChildren (IsMarked marks) (shape_at shapes k)

-- nothing is marked but what the roots reach
pub record OnlyReached (shapes : List Shape) (roots : List ℕ) (marks : List Bool) : Type 0 where
  pub reached : (k : ℕ) → IsMarked marks k → IsReached shapes roots k

-- ---- words of the marking itself

-- the marks once the children of a shape are marked
abbrev pub marked : Shape → List Bool → List Bool
marked (Const v) m = m
marked (Var name width) m = m
marked (Unary op a) m = slice_set m a true
marked (Binary op a b) m = slice_set (slice_set m a true) b true
marked (Cond c a b) m = slice_set (slice_set (slice_set m c true) a true) b true
marked (Pick c a b) m = slice_set (slice_set (slice_set m c true) a true) b true
marked (Slice a lo width) m = slice_set m a true
marked (Zext a width) m = slice_set m a true
marked (Sext a width) m = slice_set m a true
marked (DynSlice a at spot) m = slice_set (slice_set m a true) at true
marked (DynPut a at spot put) m = slice_set (slice_set (slice_set m a true) at true) put true

pub record HasEarlierChildren (shapes : List Shape) : Type 0 where
  pub children : (k : ℕ) → k < length shapes → ChildrenBelow k (shape_at shapes k)

-- nothing is marked but the roots
pub record OnlyRoots (roots : List ℕ) (marks : List Bool) : Type 0 where
  pub from_roots : (k : ℕ) → IsMarked marks k → (i : ℕ) × ((i < length roots) × (slice_index roots i ≡ k))

-- a mark stays
pub record Rises (old new : List Bool) : Type 0 where
  pub stays : (k : ℕ) → IsMarked old k → IsMarked new k
