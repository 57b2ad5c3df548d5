-- Shapes that stand for others.
use Rattle.std.specs.Prelude.{◌≡◌, ℕ, Bool, List, length, IsTrue}
use Rattle.svex_shape.specs.declared.shape.VarName.{VarName}
use Rattle.svex_shape.specs.declared.shape.Shape.{Shape}
use Rattle.svex_shape.specs.Shapes.{ChildrenBelow, FitsWidths, shape_at, width_of, width_at}
use Rattle.svex_shape.specs.Values.{Reading, HasWidths, value_of, value_at, each_variable_of, each_variable}
use Rattle.svex_arena.specs.Arenas.{IsArena}

-- a shape over an arena's nodes, of widths that fit
pub record IsOver (shapes : List Shape) (s : Shape) : Type 0 where
  pub arena : IsArena shapes
  pub children : ChildrenBelow (length shapes) s
  pub fits : FitsWidths (width_at shapes) s

-- A shape over an arena's nodes has the width of another and, whatever the variables have, its value, and mentions no other
-- variable, nor one at another width.
pub record KeepsMeaning (shapes : List Shape) (s t : Shape) : Type 0 where
  pub over : IsOver shapes t
  pub width : width_of (width_at shapes) t ≡ width_of (width_at shapes) s
  pub value : (r : Reading) → HasWidths r → value_of r (value_at r shapes) t ≡ value_of r (value_at r shapes) s
  pub mentions : (p : VarName → ℕ → Bool) → IsTrue (each_variable_of p (each_variable p shapes) s) → IsTrue (each_variable_of p (each_variable p shapes) t)

-- a shape may stand for another
unfoldable pub Becomes : List Shape → Shape → Shape → Type 0
Becomes shapes s t = KeepsMeaning shapes s t

-- a node has a shape
pub record HasShape (shapes : List Shape) (k : ℕ) (s : Shape) : Type 0 where
  pub is : shape_at shapes k ≡ s
