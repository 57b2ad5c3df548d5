-- What holds of every arena, and how one grows.
use Rattle.std.specs.Prelude.{◌≡◌, ℕ, ◌<◌, ◌≤◌, List, [], ◌∷◌, ◌++◌, length, map, ◌⊎◌, slice_index}
use Rattle.svex_shape.specs.declared.shape.Shape.{Shape}
use Rattle.svex_shape.specs.Shapes.{shape_at, ChildrenBelow, FitsWidths, width_at}
use Rattle.svex_arena.specs.Hashes.{hash_of}

-- children are earlier nodes, widths fit, and no two shapes are equal
pub record IsArena (shapes : List Shape) : Type 0 where
  pub children : (k : ℕ) → k < length shapes → ChildrenBelow k (shape_at shapes k)
  pub fits : (k : ℕ) → k < length shapes → FitsWidths (width_at shapes) (shape_at shapes k)
  pub some : (k : ℕ) → k < length shapes → 0 < width_at shapes k
  pub most : (k : ℕ) → k < length shapes → width_at shapes k ≤ 128
  pub apart : (j k : ℕ) → j < length shapes → k < length shapes → shape_at shapes j ≡ shape_at shapes k → j ≡ k

-- the nodes of one arena keep their numbers and shapes in another
pub record Extends (old new : List Shape) : Type 0 where
  pub longer : length old ≤ length new
  pub same : (k : ℕ) → k < length old → shape_at new k ≡ shape_at old k

-- the answered node has the shape, and the arena is as before, or has one node more, which is this one
abbrev pub Interned : List Shape → Shape → List Shape → ℕ → Type 0
Interned old shape new node =
    (node < length new) × (shape_at new node ≡ shape) × ((new ≡ old) ⊎ ((new ≡ old ++ shape ∷ []) × (node ≡ length old)))

-- what an arena keeps: the widths of its nodes and the hashes of their shapes
pub record IsKept (shapes : List Shape) (widths hashes : List ℕ) : Type 0 where
  pub arena : IsArena shapes
  pub wide : length widths ≡ length shapes
  pub sized : (k : ℕ) → k < length shapes → slice_index widths k ≡ width_at shapes k
  pub hashed : hashes ≡ map hash_of shapes
