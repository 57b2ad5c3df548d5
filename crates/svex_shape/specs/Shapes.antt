-- Shapes, their children and their widths. An arena is the list of its shapes, the oldest first.
use Rattle.std.specs.Prelude.{◌≡◌, ℕ, zero, suc, ◌+◌, ◌<◌, ◌≤◌, ◌==◌, ◌⊎◌, List, [], length, slice_index_or, if◌then◌else◌}
use Rattle.svex_shape.specs.declared.shape.Un.{Un}
use Rattle.svex_shape.specs.declared.shape.Un.TheVariants.{Unfloat, Not, Neg}
use Rattle.svex_shape.specs.declared.shape.Bin.{Bin}
use Rattle.svex_shape.specs.declared.shape.Bin.TheVariants.{Eq, Lt, Slt, Shl, Shr, Sar, Concat}
use Rattle.svex_shape.specs.declared.shape.Shape.{Shape}
use Rattle.svex_shape.specs.declared.shape.Shape.TheVariants.{Const, Var, Unary, Binary, Cond, Pick, Slice, Zext, Sext, DynSlice, DynPut}

-- the shape of a node
abbrev pub shape_at : List Shape → ℕ → Shape
shape_at shapes k = slice_index_or shapes k (Const [])

-- a fact holds of each child of a shape
abbrev pub OnChildren : (ℕ → Type 0) → Shape → Type 0
OnChildren P (Const v) = Unit {0}
OnChildren P (Var name width) = Unit {0}
OnChildren P (Unary op a) = P a
OnChildren P (Binary op a b) = P a × P b
OnChildren P (Cond c a b) = P c × P a × P b
OnChildren P (Pick c a b) = P c × P a × P b
OnChildren P (Slice a lo width) = P a
OnChildren P (Zext a width) = P a
OnChildren P (Sext a width) = P a
OnChildren P (DynSlice a at spot) = P a × P at
OnChildren P (DynPut a at spot put) = P a × P at × P put

-- the children of a shape are among the first n nodes
abbrev pub ChildrenBelow : ℕ → Shape → Type 0
ChildrenBelow n shape = OnChildren (λ k. k < n) shape

abbrev pub IsChild : ℕ → Shape → Type 0
IsChild k (Const v) = ⊥
IsChild k (Var name width) = ⊥
IsChild k (Unary op a) = k ≡ a
IsChild k (Binary op a b) = (k ≡ a) ⊎ (k ≡ b)
IsChild k (Cond c a b) = (k ≡ c) ⊎ ((k ≡ a) ⊎ (k ≡ b))
IsChild k (Pick c a b) = (k ≡ c) ⊎ ((k ≡ a) ⊎ (k ≡ b))
IsChild k (Slice a lo width) = k ≡ a
IsChild k (Zext a width) = k ≡ a
IsChild k (Sext a width) = k ≡ a
IsChild k (DynSlice a at spot) = (k ≡ a) ⊎ (k ≡ at)
IsChild k (DynPut a at spot put) = (k ≡ a) ⊎ ((k ≡ at) ⊎ (k ≡ put))

-- what each of the first n nodes gives, by a step from what the earlier nodes give to what a shape gives
unfoldable pub upto : {A : Type 0} → ((ℕ → A) → Shape → A) → A → List Shape → ℕ → ℕ → A
upto step none shapes zero k = none
upto step none shapes (suc n) k =
    if k == n then step (upto step none shapes n) (shape_at shapes n) else upto step none shapes n k

-- what a node gives
abbrev pub at_node : {A : Type 0} → ((ℕ → A) → Shape → A) → A → List Shape → ℕ → A
at_node step none shapes k = upto step none shapes (suc k) k

-- ---- widths, in bits, as the operators of fourvec give and ask for them (IEEE 1800-2017, table 11-21, where it has the operator)

abbrev pub unary_width : Un → ℕ → ℕ
unary_width Unfloat a = a
unary_width Not a = a
unary_width Neg a = a
unary_width op a = 1

abbrev pub binary_width : Bin → ℕ → ℕ → ℕ
binary_width Eq a b = 1
binary_width Lt a b = 1
binary_width Slt a b = 1
binary_width Concat a b = a + b
binary_width op a b = a

-- a width of 1 to 128 bits
abbrev pub IsWidth : ℕ → Type 0
IsWidth w = (0 < w) × (w ≤ 128)

-- the width of a shape over the widths of nodes
unfoldable pub width_of : (ℕ → ℕ) → Shape → ℕ
width_of w (Const v) = length v
width_of w (Var name width) = width
width_of w (Unary op a) = unary_width op (w a)
width_of w (Binary op a b) = binary_width op (w a) (w b)
width_of w (Cond c a b) = w a
width_of w (Pick c a b) = w a
width_of w (Slice a lo width) = width
width_of w (Zext a width) = width
width_of w (Sext a width) = width
width_of w (DynSlice a at spot) = spot.width
width_of w (DynPut a at spot put) = w a

-- the width of a node
abbrev pub width_at : List Shape → ℕ → ℕ
width_at shapes k = at_node width_of 0 shapes k

-- the widths of two operands allow an operator
abbrev pub FitsPair : Bin → ℕ → ℕ → Type 0
FitsPair Shl a b = Unit {0}
FitsPair Shr a b = Unit {0}
FitsPair Sar a b = Unit {0}
FitsPair Concat a b = a + b ≤ 128
FitsPair op a b = a ≡ b

-- the widths of the children of a shape allow it
abbrev pub FitsWidths : (ℕ → ℕ) → Shape → Type 0
FitsWidths w (Const v) = Unit {0}
FitsWidths w (Var name width) = (0 < width) × (width ≤ 128)
FitsWidths w (Unary op a) = Unit {0}
FitsWidths w (Binary op a b) = FitsPair op (w a) (w b)
FitsWidths w (Cond c a b) = (w c ≡ 1) × (w a ≡ w b)
FitsWidths w (Pick c a b) = (w c ≡ 1) × (w a ≡ w b)
FitsWidths w (Slice a lo width) = (0 < width) × (lo + width ≤ w a)
FitsWidths w (Zext a width) = (w a ≤ width) × (width ≤ 128)
FitsWidths w (Sext a width) = (w a ≤ width) × (width ≤ 128)
FitsWidths w (DynSlice a at spot) = (0 < spot.width) × (spot.width ≤ 128)
FitsWidths w (DynPut a at spot put) = w put ≡ spot.width
