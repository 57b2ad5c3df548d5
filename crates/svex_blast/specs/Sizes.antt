-- How many nodes of gates an expression may take.
use Rattle.std.specs.Prelude.{ℕ, zero, suc, ◌+◌, ◌*◌, max, Bool, false, List, length, slice_index_or, if◌then◌else◌}
use Rattle.svex_shape.specs.declared.shape.Un.{Un}
use Rattle.svex_shape.specs.declared.shape.Un.TheVariants.{Unfloat, Not}
use Rattle.svex_shape.specs.declared.shape.Bin.{Bin}
use Rattle.svex_shape.specs.declared.shape.Bin.TheVariants.{And, Or, Concat}
use Rattle.svex_shape.specs.declared.shape.Shape.{Shape}
use Rattle.svex_shape.specs.declared.shape.Shape.TheVariants.{Const, Var, Unary, Binary, Cond, Pick, Slice, Zext, Sext, DynSlice, DynPut}
use Rattle.svex_shape.specs.Shapes.{shape_at, width_at, unary_width, binary_width}

-- the greatest width among a shape and its children
abbrev pub widest : (ℕ → ℕ) → Shape → ℕ
widest w (Const v) = length v
widest w (Var name width) = width
widest w (Unary op a) = max (unary_width op (w a)) (w a)
widest w (Binary op a b) = max (binary_width op (w a) (w b)) (max (w a) (w b))
widest w (Cond c a b) = max (w c) (max (w a) (w b))
widest w (Pick c a b) = max (w c) (max (w a) (w b))
widest w (Slice a lo width) = max width (w a)
widest w (Zext a width) = max width (w a)
widest w (Sext a width) = max width (w a)
widest w (DynSlice a at spot) = max spot.width (max (w a) (w at))
widest w (DynPut a at spot put) = max (w a) (max (w at) (w put))

abbrev pub unary_gates : Un → ℕ → ℕ
unary_gates Unfloat n = 2 * n
unary_gates Not n = 2 * n
unary_gates op n = 256 * n * n

abbrev pub binary_gates : Bin → ℕ → ℕ
binary_gates And n = 6 * n
binary_gates Or n = 6 * n
binary_gates Concat n = 0
binary_gates op n = 256 * n * n

-- the most nodes that a shape takes where its widest vector has n bits
abbrev pub gates_by : Shape → ℕ → ℕ
gates_by (Const v) n = 0
gates_by (Var name width) n = 0
gates_by (Unary op a) n = unary_gates op n
gates_by (Binary op a b) n = binary_gates op n
gates_by (Cond c a b) n = 256 * n * n
gates_by (Pick c a b) n = 256 * n * n
gates_by (Slice a lo width) n = 0
gates_by (Zext a width) n = 0
gates_by (Sext a width) n = 0
gates_by (DynSlice a at spot) n = 256 * n * n
gates_by (DynPut a at spot put) n = 256 * n * n

-- over the widths of nodes
abbrev pub gates_of : (ℕ → ℕ) → Shape → ℕ
gates_of w s = gates_by s (widest w s)

-- of the marked ones among the first n nodes, each counted once
unfoldable pub gates_to : List Shape → List Bool → ℕ → ℕ
gates_to shapes marks zero = 0
gates_to shapes marks (suc n) =
    gates_to shapes marks n + (if slice_index_or marks n false then gates_of (width_at shapes) (shape_at shapes n) else 0)
