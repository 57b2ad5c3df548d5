-- Readers of shapes of nodes: the name of an operator, and then what it takes.
use Rattle.std.specs.Prelude.{ℕ, List, [], ◌∷◌, take, drop, codes, Option, None, Some, bytes_eq, find}
use Rattle.std.specs.List.{prefix_len}
use Rattle.svex_shape.specs.declared.shape.VarName.TheVariants.{Now, Prev}
use Rattle.svex_shape.specs.declared.shape.Un.{Un}
use Rattle.svex_shape.specs.declared.shape.Un.TheVariants.{Unfloat, Not, Neg, RedAnd, RedOr, RedXor, Truth}
use Rattle.svex_shape.specs.declared.shape.Bin.{Bin}
use Rattle.svex_shape.specs.declared.shape.Bin.TheVariants.{And, Or, Xor, Eq, Lt, Slt, Add, Sub, Mul, Div, Rem, Sdiv, Srem, Res, Shl, Shr, Sar, Concat}
use Rattle.svex_shape.specs.declared.shape.Shape.{Shape}
use Rattle.svex_shape.specs.declared.shape.Shape.TheVariants.{Const, Var, Unary, Binary, Cond, Pick, Slice, Zext, Sext, DynSlice, DynPut}
use Rattle.flat_text.specs.Lines.{Text, unary_name, binary_name}
use Rattle.flat_words.specs.Readers.{Reader, behind, before, both, made, is_letter, number, next, next_byte, next_spot, vector}
use Rattle.flat_lines.specs.declared.shapes.Form.{Form}
use Rattle.flat_lines.specs.declared.shapes.Form.TheVariants as f

-- ---- names

abbrev pub unary_operators : List Un
unary_operators = Unfloat ∷ Not ∷ Neg ∷ RedAnd ∷ RedOr ∷ RedXor ∷ Truth ∷ []

abbrev pub binary_operators : List Bin
binary_operators = And ∷ Or ∷ Xor ∷ Eq ∷ Lt ∷ Slt ∷ Add ∷ Sub ∷ Mul ∷ Div ∷ Rem ∷ Sdiv ∷ Srem ∷ Res ∷ Shl ∷ Shr ∷ Sar ∷ Concat ∷ []

abbrev pub forms : List Form
forms = f.Const ∷ f.Var ∷ f.Cond ∷ f.Pick ∷ f.Slice ∷ f.Zext ∷ f.Sext ∷ f.DynSlice ∷ f.DynPut ∷ []

abbrev pub form_name : Form → Text
form_name f.Const = codes "const"
form_name f.Var = codes "var"
form_name f.Cond = codes "cond"
form_name f.Pick = codes "pick"
form_name f.Slice = codes "slice"
form_name f.Zext = codes "zext"
form_name f.Sext = codes "sext"
form_name f.DynSlice = codes "dyn_slice"
form_name f.DynPut = codes "dyn_put"

-- the operator of a name
unfoldable pub unary_of : Text → Option Un
unary_of word = find (λ op. bytes_eq (unary_name op) word) unary_operators

unfoldable pub binary_of : Text → Option Bin
binary_of word = find (λ op. bytes_eq (binary_name op) word) binary_operators

unfoldable pub form_of : Text → Option Form
form_of word = find (λ form. bytes_eq (form_name form) word) forms

-- ---- what operators take

-- ` now WIRE W` or ` prev WIRE W`
abbrev pub variable_by : Option Text → Option Text → Option (Shape × Text)
variable_by (Some t) other = made (λ x. Var (Now x.0) x.1) (both number next_byte) t
variable_by None (Some t) = made (λ x. Var (Prev x.0) x.1) (both number next_byte) t
variable_by None None = None

unfoldable pub variable : Reader Shape
variable t = variable_by (behind (codes " now ") t) (behind (codes " prev ") t)

-- ` VALUE`
unfoldable pub constant : Reader Shape
constant t = made Const (λ s. before (codes " ") vector s) t

unfoldable pub two : Reader (ℕ × ℕ)
two t = both next next t

unfoldable pub three : Reader (ℕ × (ℕ × ℕ))
three t = both next two t

unfoldable pub part : Reader (ℕ × (ℕ × ℕ))
part t = both next (both next_byte next_byte) t

unfoldable pub widened : Reader (ℕ × ℕ)
widened t = both next next_byte t

abbrev pub by_form : Form → Reader Shape
by_form f.Const t = constant t
by_form f.Var t = variable t
by_form f.Cond t = made (λ x. Cond x.0 x.1.0 x.1.1) three t
by_form f.Pick t = made (λ x. Pick x.0 x.1.0 x.1.1) three t
by_form f.Slice t = made (λ x. Slice x.0 x.1.0 x.1.1) part t
by_form f.Zext t = made (λ x. Zext x.0 x.1) widened t
by_form f.Sext t = made (λ x. Sext x.0 x.1) widened t
by_form f.DynSlice t = made (λ x. DynSlice x.0 x.1.0 x.1.1) (both next (both next next_spot)) t
by_form f.DynPut t = made (λ x. DynPut x.0 x.1.0 x.1.1.0 x.1.1.1) (both next (both next (both next_spot next))) t

abbrev pub by_name : Option Un → Option Bin → Option Form → Reader Shape
by_name (Some op) other form t = made (λ k. Unary op k) next t
by_name None (Some op) form t = made (λ x. Binary op x.0 x.1) two t
by_name None None (Some form) t = by_form form t
by_name None None None t = None

unfoldable pub by_word : Text → Reader Shape
by_word word t = by_name (unary_of word) (binary_of word) (form_of word) t

-- SHAPE
unfoldable pub shape : Reader Shape
shape t = by_word (take (prefix_len is_letter t) t) (drop (prefix_len is_letter t) t)
