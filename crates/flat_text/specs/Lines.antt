-- The lines of the flat text (this project's rules). Numbers are decimal, without a sign but of a negative ADD, and without leading zeros. A
-- part in capitals stands for a number or a word: W and LO for a width and a lowest bit, K and S for nodes and tests.
use Rattle.std.specs.Prelude.{ℕ, Bool, true, false, List, [], ◌∷◌, ◌++◌, length, map, reverse, codes, decimal}
use Rattle.std.specs.List.{flat_map}
use Rattle.std.specs.Fmt.{signed_decimal}
use Rattle.fourvec.specs.declared.Bit.{Bit}
pub use Rattle.fourvec.specs.Bits.{digit}
use Rattle.fourvec.specs.declared.Spot.{Spot}
use Rattle.lhs_alias.specs.declared.segs.Seg.{Seg}
use Rattle.sv_outside.specs.declared.text.Signal.{Signal}
use Rattle.svex_shape.specs.declared.shape.VarName.{VarName}
use Rattle.svex_shape.specs.declared.shape.VarName.TheVariants.{Now, Prev}
use Rattle.svex_shape.specs.declared.shape.Un.{Un}
use Rattle.svex_shape.specs.declared.shape.Un.TheVariants.{Unfloat, Not, Neg, RedAnd, RedOr, RedXor, Truth}
use Rattle.svex_shape.specs.declared.shape.Bin.{Bin}
use Rattle.svex_shape.specs.declared.shape.Bin.TheVariants.{And, Or, Xor, Eq, Lt, Slt, Add, Sub, Mul, Div, Rem, Sdiv, Srem, Res, Shl, Shr, Sar, Concat}
use Rattle.svex_shape.specs.declared.shape.Shape.{Shape}
use Rattle.svex_shape.specs.declared.shape.Shape.TheVariants.{Const, Var, Unary, Binary, Cond, Pick, Slice, Zext, Sext, DynSlice, DynPut}
use Rattle.driver_resolve.specs.declared.driver.Driver.{Driver}
use Rattle.flat_net.specs.declared.flat.Flat.{Flat}
use Rattle.flat_net.specs.declared.flat.Join.{Join}

abbrev pub Text : Type 0
Text = List ℕ

-- ---- words

-- VALUE: the width, `'b`, and all bits from the most significant on
abbrev pub value_text : List Bit → Text
value_text v = decimal (length v) ++ (codes "'b" ++ map digit (reverse v))

-- a number behind a blank
abbrev pub next : ℕ → Text
next n = codes " " ++ decimal n

-- `WIRE[LO+:W]`
abbrev pub seg_text : Seg → Text
seg_text s = decimal s.wire ++ (codes "[" ++ (decimal s.lo ++ (codes "+:" ++ (decimal s.width ++ codes "]"))))

-- LHS: segments joined by commas, the most significant first
abbrev pub lhs_text : List Seg → Text
lhs_text [] = []
lhs_text (s ∷ more) = seg_text s ++ flat_map (λ t. 44 ∷ seg_text t) more

-- `1` or `0`
abbrev pub flag : Bool → ℕ
flag true = 49
flag false = 48

-- `S N EACH ADD W`
abbrev pub spot_text : Spot → Text
spot_text s = flag s.signed ∷ 32 ∷ flag s.negate ∷ 32 ∷ (decimal s.each ++ (codes " " ++ (signed_decimal s.add ++ next s.width)))

-- ---- nodes

-- the name of an operator
abbrev pub unary_name : Un → Text
unary_name Unfloat = codes "unfloat"
unary_name Not = codes "not"
unary_name Neg = codes "neg"
unary_name RedAnd = codes "red_and"
unary_name RedOr = codes "red_or"
unary_name RedXor = codes "red_xor"
unary_name Truth = codes "truth"

abbrev pub binary_name : Bin → Text
binary_name And = codes "and"
binary_name Or = codes "or"
binary_name Xor = codes "xor"
binary_name Eq = codes "eq"
binary_name Lt = codes "lt"
binary_name Slt = codes "slt"
binary_name Add = codes "add"
binary_name Sub = codes "sub"
binary_name Mul = codes "mul"
binary_name Div = codes "div"
binary_name Rem = codes "rem"
binary_name Sdiv = codes "sdiv"
binary_name Srem = codes "srem"
binary_name Res = codes "res"
binary_name Shl = codes "shl"
binary_name Shr = codes "shr"
binary_name Sar = codes "sar"
binary_name Concat = codes "concat"

-- the present and the previous values of wires have a form, and no other variable has one
abbrev pub name_has_form : VarName → Bool
name_has_form (Now n) = true
name_has_form (Prev n) = true
name_has_form name = false

abbrev pub has_form : Shape → Bool
has_form (Var name w) = name_has_form name
has_form shape = true

-- `now WIRE` or `prev WIRE`
abbrev pub name_text : VarName → Text
name_text (Now n) = codes "now " ++ decimal n
name_text (Prev n) = codes "prev " ++ decimal n
name_text name = []

-- SHAPE, of a node whose children have these numbers in the text
unfoldable pub shape_text : Shape → Text
shape_text (Const v) = codes "const " ++ value_text v
shape_text (Var name w) = codes "var " ++ (name_text name ++ next w)
shape_text (Unary op a) = unary_name op ++ next a
shape_text (Binary op a b) = binary_name op ++ (next a ++ next b)
shape_text (Cond c a b) = codes "cond" ++ (next c ++ (next a ++ next b))
shape_text (Pick c a b) = codes "pick" ++ (next c ++ (next a ++ next b))
shape_text (Slice a lo w) = codes "slice" ++ (next a ++ (next lo ++ next w))
shape_text (Zext a w) = codes "zext" ++ (next a ++ next w)
shape_text (Sext a w) = codes "sext" ++ (next a ++ next w)
shape_text (DynSlice a at spot) = codes "dyn_slice" ++ (next a ++ (next at ++ (codes " " ++ spot_text spot)))
shape_text (DynPut a at spot put) = codes "dyn_put" ++ (next a ++ (next at ++ (codes " " ++ (spot_text spot ++ next put))))

-- ---- lines

abbrev pub kind_text : Bool → Text
kind_text true = codes " in "
kind_text false = codes " net "

-- `wire W in PATH` for an input or inout of the top, else `wire W net PATH`
abbrev pub wire_line : Signal → Text
wire_line s = codes "wire " ++ (decimal s.width ++ (kind_text s.input ++ s.path))

-- `join LHS = LHS`, child first
abbrev pub join_line : Join → Text
join_line j = codes "join " ++ (lhs_text j.child ++ (codes " = " ++ lhs_text j.parent))

-- `node SHAPE`
abbrev pub node_line : Shape → Text
node_line shape = codes "node " ++ shape_text shape

-- `drive LHS = K`
abbrev pub drive_line : Driver → Text
drive_line d = codes "drive " ++ (lhs_text d.target ++ (codes " = " ++ decimal d.value))

-- the lines of a design whose nodes are those of the text, by their numbers there
abbrev pub lines_of : Flat → List Text
lines_of shown =
    codes "flat 1" ∷ (map wire_line shown.wires ++ (map join_line shown.joins ++ (map node_line shown.arena ++ (map drive_line shown.drivers ++ (codes "end" ∷ [])))))

-- each line ends in a line feed
abbrev pub ended : Text → Text
ended line = line ++ (10 ∷ [])

abbrev pub text_of : List Text → Text
text_of lines = flat_map ended lines
