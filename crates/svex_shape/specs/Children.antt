-- The children of shapes, by their numbers.
use Rattle.std.specs.Prelude.{None, Some}
use Rattle.svex_shape.specs.declared.shape.Shape.{Shape}
use Rattle.svex_shape.specs.declared.shape.Shape.TheVariants.{Const, Var, Unary, Binary, Cond, Pick, Slice, Zext, Sext, DynSlice, DynPut}
use Rattle.svex_shape.specs.declared.children.Children.{Children}

-- the children of a shape
abbrev pub children_of : Shape → Children
children_of (Const v) = record { first = None; second = None; third = None }
children_of (Var name width) = record { first = None; second = None; third = None }
children_of (Unary op a) = record { first = Some a; second = None; third = None }
children_of (Binary op a b) = record { first = Some a; second = Some b; third = None }
children_of (Cond c a b) = record { first = Some c; second = Some a; third = Some b }
children_of (Pick c a b) = record { first = Some c; second = Some a; third = Some b }
children_of (Slice a lo width) = record { first = Some a; second = None; third = None }
children_of (Zext a width) = record { first = Some a; second = None; third = None }
children_of (Sext a width) = record { first = Some a; second = None; third = None }
children_of (DynSlice a at spot) = record { first = Some a; second = Some at; third = None }
children_of (DynPut a at spot put) = record { first = Some a; second = Some at; third = Some put }
