-- The value of a node.
use Rattle.std.specs.Prelude.{◌≡◌, ℕ, ◌==◌, Bool, true, ◌&&◌, List, [], length, slice_index_or, if◌then◌else◌, IsTrue}
use Rattle.fourvec.specs.declared.Bit.{Bit}
use Rattle.fourvec.specs.Bits.{unfloat_of, not_of, neg_of, red_and_of, red_or_of, red_xor_of, truth_of, and_of, or_of, xor_of, eq_of, lt_of, slt_of, add_of, sub_of, mul_of, div_of, rem_of, sdiv_of, srem_of, res_of, shl_of, shr_of, sar_of, concat_of, slice_of, zext_of, sext_of, cond_of, pick_of, all_x}
use Rattle.fourvec.specs.Spots.{dyn_slice_of, dyn_put_of}
use Rattle.fourvec.specs.Laws.{Below}
use Rattle.svex_shape.specs.declared.shape.VarName.{VarName}
use Rattle.svex_shape.specs.declared.shape.VarName.TheVariants.{Now, Prev, Stim, Chosen, Sampled}
use Rattle.svex_shape.specs.declared.shape.Un.{Un}
use Rattle.svex_shape.specs.declared.shape.Un.TheVariants.{Unfloat, Not, Neg, RedAnd, RedOr, RedXor, Truth}
use Rattle.svex_shape.specs.declared.shape.Bin.{Bin}
use Rattle.svex_shape.specs.declared.shape.Bin.TheVariants.{And, Or, Xor, Eq, Lt, Slt, Add, Sub, Mul, Div, Rem, Sdiv, Srem, Res, Shl, Shr, Sar, Concat}
use Rattle.svex_shape.specs.declared.shape.Shape.{Shape}
use Rattle.svex_shape.specs.declared.shape.Shape.TheVariants.{Const, Var, Unary, Binary, Cond, Pick, Slice, Zext, Sext, DynSlice, DynPut}
use Rattle.svex_shape.specs.Shapes.{at_node}

abbrev pub Vector : Type 0
Vector = List Bit

-- ---- what variables have

-- a vector for each variable and width
abbrev pub Reading : Type 0
Reading = VarName → ℕ → Vector

-- the values of the variables, a list for each kind
pub record Rows : Type 0 where
  pub present : List Vector
  pub previous : List Vector
  pub stim : List Vector
  pub chosen : List Vector
  pub sampled : List Vector

-- the value of a variable in its list; no bits past the end of the list
abbrev pub value_in_rows : Rows → VarName → Vector
value_in_rows rows (Now k) = slice_index_or rows.present k []
value_in_rows rows (Prev k) = slice_index_or rows.previous k []
value_in_rows rows (Stim k) = slice_index_or rows.stim k []
value_in_rows rows (Chosen k) = slice_index_or rows.chosen k []
value_in_rows rows (Sampled k) = slice_index_or rows.sampled k []

-- the variable is there, with the width
abbrev pub has_variable : Rows → VarName → ℕ → Bool
has_variable rows name width = length (value_in_rows rows name) == width

-- each variable as it stands in its list
abbrev pub held : Rows → Reading
held rows name width = value_in_rows rows name

-- a vector where it has the width, and X where it has not
unfoldable pub fitted : ℕ → Vector → Vector
fitted width v = if length v == width then v else all_x width

-- the value of a variable at a width; X where it is absent or has another width
abbrev pub read : Rows → Reading
read rows name width = fitted width (value_in_rows rows name)

-- ---- the value of a node

abbrev pub unary_value : Un → Vector → Vector
unary_value Unfloat a = unfloat_of a
unary_value Not a = not_of a
unary_value Neg a = neg_of a
unary_value RedAnd a = red_and_of a
unary_value RedOr a = red_or_of a
unary_value RedXor a = red_xor_of a
unary_value Truth a = truth_of a

abbrev pub binary_value : Bin → Vector → Vector → Vector
binary_value And a b = and_of a b
binary_value Or a b = or_of a b
binary_value Xor a b = xor_of a b
binary_value Eq a b = eq_of a b
binary_value Lt a b = lt_of a b
binary_value Slt a b = slt_of a b
binary_value Add a b = add_of a b
binary_value Sub a b = sub_of a b
binary_value Mul a b = mul_of a b
binary_value Div a b = div_of a b
binary_value Rem a b = rem_of a b
binary_value Sdiv a b = sdiv_of a b
binary_value Srem a b = srem_of a b
binary_value Res a b = res_of a b
binary_value Shl a b = shl_of a b
binary_value Shr a b = shr_of a b
binary_value Sar a b = sar_of a b
binary_value Concat a b = concat_of a b

-- the value of a shape over the values of nodes
unfoldable pub value_of : Reading → (ℕ → Vector) → Shape → Vector
value_of reading f (Const v) = v
value_of reading f (Var name width) = reading name width
value_of reading f (Unary op a) = unary_value op (f a)
value_of reading f (Binary op a b) = binary_value op (f a) (f b)
value_of reading f (Cond c a b) = cond_of (f c) (f a) (f b)
value_of reading f (Pick c a b) = pick_of (f c) (f a) (f b)
value_of reading f (Slice a lo width) = slice_of (f a) lo width
value_of reading f (Zext a width) = zext_of (f a) width
value_of reading f (Sext a width) = sext_of (f a) width
value_of reading f (DynSlice a at spot) = dyn_slice_of (f a) (f at) spot
value_of reading f (DynPut a at spot put) = dyn_put_of (f a) (f at) spot (f put)

-- the value of a node
abbrev pub value_at : Reading → List Shape → ℕ → Vector
value_at reading shapes k = at_node (value_of reading) [] shapes k

-- ---- the variables that a node mentions

-- a test holds of the variable of a shape, and of those of its children
unfoldable pub each_variable_of : (VarName → ℕ → Bool) → (ℕ → Bool) → Shape → Bool
each_variable_of p f (Const v) = true
each_variable_of p f (Var name width) = p name width
each_variable_of p f (Unary op a) = f a
each_variable_of p f (Binary op a b) = f a && f b
each_variable_of p f (Cond c a b) = f c && (f a && f b)
each_variable_of p f (Pick c a b) = f c && (f a && f b)
each_variable_of p f (Slice a lo width) = f a
each_variable_of p f (Zext a width) = f a
each_variable_of p f (Sext a width) = f a
each_variable_of p f (DynSlice a at spot) = f a && f at
each_variable_of p f (DynPut a at spot put) = f a && (f at && f put)

-- a test holds of each variable that a node mentions, at the width that it has there
abbrev pub each_variable : (VarName → ℕ → Bool) → List Shape → ℕ → Bool
each_variable p shapes k = at_node (each_variable_of p) true shapes k

-- ---- what laws ask of readings

-- a reading gives each variable a vector of its width
abbrev pub HasWidths : Reading → Type 0
HasWidths r = (name : VarName) (width : ℕ) → length (r name width) ≡ width

-- the same, of the variables for which a test holds
abbrev pub HasWidthsWhere : (VarName → ℕ → Bool) → Reading → Type 0
HasWidthsWhere p r = (name : VarName) (width : ℕ) → IsTrue (p name width) → length (r name width) ≡ width

-- two readings agree on the variables for which a test holds
abbrev pub AgreesWhere : (VarName → ℕ → Bool) → Reading → Reading → Type 0
AgreesWhere p r s = (name : VarName) (width : ℕ) → IsTrue (p name width) → r name width ≡ s name width

-- one reading is below another on the variables for which a test holds
abbrev pub IsBelowWhere : (VarName → ℕ → Bool) → Reading → Reading → Type 0
IsBelowWhere p r s = (name : VarName) (width : ℕ) → IsTrue (p name width) → Below (r name width) (s name width)

-- each variable of the first is below that of the second, in its list
pub record RowsBelow (e f : Rows) : Type 0 where
  pub rows : (name : VarName) → Below (value_in_rows e name) (value_in_rows f name)
