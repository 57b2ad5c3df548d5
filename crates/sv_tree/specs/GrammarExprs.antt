-- The grammar of expressions (A.8), by cases on trees, with a level for each precedence.
use Rattle.std.specs.Prelude.{◌≡◌, ℕ, ◌+◌, ◌≤◌, Bool, true, false, codes}
use mathlib.Core.Former.{Count}
use Rattle.sv_tree.specs.declared.exprs.Sign.{Sign}
use Rattle.sv_tree.specs.declared.exprs.Sign.TheVariants as sign
use Rattle.sv_tree.specs.declared.exprs.SystemName.{SystemName}
use Rattle.sv_tree.specs.declared.exprs.SystemName.TheVariants as system_name
use Rattle.sv_tree.specs.declared.exprs.UnaryOp.{UnaryOp}
use Rattle.sv_tree.specs.declared.exprs.UnaryOp.TheVariants as one
use Rattle.sv_tree.specs.declared.exprs.BinaryOp.{BinaryOp}
use Rattle.sv_tree.specs.declared.exprs.BinaryOp.TheVariants as two
use Rattle.sv_tree.specs.declared.exprs.RangeMark.{RangeMark}
use Rattle.sv_tree.specs.declared.exprs.RangeMark.TheVariants as range_mark
use Rattle.sv_tree.specs.declared.exprs.Expr.{Expr, Literal, Name', Paren', Concat', Repeat', CastLiteral', CastName', CastParen', CastSign', System', Unary', Binary', Choose', Row_of-Expr, end_of-Expr, more_of-Expr, Row_of-Select, end_of-Select, more_of-Select}
use Rattle.sv_tree.specs.declared.exprs.Select.{Select, Member, Index', Range'}
use Rattle.sv_tree.specs.Spelling.{Text, Spelled, nothing, never, ◌⨟◌, when, mark, mark_at, key_at, system_at, literal, name}

abbrev pub sign_word : Sign → Text
sign_word sign.Signed = codes "signed"
sign_word sign.Unsigned = codes "unsigned"

abbrev pub system_word : SystemName → Text
system_word system_name.Signed = codes "$signed"
system_word system_name.Unsigned = codes "$unsigned"
system_word system_name.Clog2 = codes "$clog2"

abbrev pub unary_mark : UnaryOp → Text
unary_mark one.Plus = codes "+"
unary_mark one.Minus = codes "-"
unary_mark one.LogicNot = codes "!"
unary_mark one.Not = codes "~"
unary_mark one.And = codes "&"
unary_mark one.Nand = codes "~&"
unary_mark one.Or = codes "|"
unary_mark one.Nor = codes "~|"
unary_mark one.Xor = codes "^"
unary_mark one.TildeXor = codes "~^"
unary_mark one.XorTilde = codes "^~"

abbrev pub binary_mark : BinaryOp → Text
binary_mark two.Power = codes "**"
binary_mark two.Mul = codes "*"
binary_mark two.Div = codes "/"
binary_mark two.Rem = codes "%"
binary_mark two.Add = codes "+"
binary_mark two.Sub = codes "-"
binary_mark two.Shl = codes "<<"
binary_mark two.Shr = codes ">>"
binary_mark two.Sal = codes "<<<"
binary_mark two.Sar = codes ">>>"
binary_mark two.Lt = codes "<"
binary_mark two.Le = codes "<="
binary_mark two.Gt = codes ">"
binary_mark two.Ge = codes ">="
binary_mark two.Eq = codes "=="
binary_mark two.Ne = codes "!="
binary_mark two.And = codes "&"
binary_mark two.Xor = codes "^"
binary_mark two.TildeXor = codes "~^"
binary_mark two.XorTilde = codes "^~"
binary_mark two.Or = codes "|"
binary_mark two.LogicAnd = codes "&&"
binary_mark two.LogicOr = codes "||"
binary_mark two.Implies = codes "->"
binary_mark two.Equivalent = codes "<->"

abbrev pub range_text : RangeMark → Text
range_text range_mark.To = codes ":"
range_text range_mark.Up = codes "+:"
range_text range_mark.Down = codes "-:"

-- How tightly an operator binds, IEEE 1800-2017 table 11-2. `? :` is of level 1, and what has no operator between two of its parts of level 13.
abbrev pub binds : BinaryOp → ℕ
binds two.Implies = 0
binds two.Equivalent = 0
binds two.LogicOr = 2
binds two.LogicAnd = 3
binds two.Or = 4
binds two.Xor = 5
binds two.TildeXor = 5
binds two.XorTilde = 5
binds two.And = 6
binds two.Eq = 7
binds two.Ne = 7
binds two.Lt = 8
binds two.Le = 8
binds two.Gt = 8
binds two.Ge = 8
binds two.Shl = 9
binds two.Shr = 9
binds two.Sal = 9
binds two.Sar = 9
binds two.Add = 10
binds two.Sub = 10
binds two.Mul = 11
binds two.Div = 11
binds two.Rem = 11
binds two.Power = 12

-- the levels of the left and the right operand: all but the loosest associate to the left
abbrev pub left_level : BinaryOp → ℕ
left_level two.Implies = 1
left_level two.Equivalent = 1
left_level op = binds op

abbrev pub right_level : BinaryOp → ℕ
right_level two.Implies = 0
right_level two.Equivalent = 0
right_level op = binds op + 1

abbrev pub is_range : Select → Bool
is_range (Member p w) = false
is_range (Index' p s x) = false
is_range (Range' p s x m r y) = true

abbrev mutual
  -- The expression, of this level or a tighter one, is spelled by what stands from the first list of tokens up to the second.
  pub Spells : ℕ → Expr → Spelled
  Spells n (Literal w) = literal w
  Spells n (Name' w s all) = name w ⨟ SpellsSelects all
  Spells n (Paren' p s (more_of-Expr x end_of-Expr)) = mark_at (codes "(") p ⨟ Spells 0 x ⨟ mark (codes ")")
  Spells n (Concat' p s all) = mark_at (codes "{") p ⨟ SpellsCommas all ⨟ mark (codes "}")
  Spells n (Repeat' p r (more_of-Expr x end_of-Expr) s all) =
      mark_at (codes "{") p ⨟ Spells 0 x ⨟ mark (codes "{") ⨟ SpellsCommas all ⨟ mark (codes "}") ⨟ mark (codes "}")
  Spells n (CastLiteral' w s (more_of-Expr x end_of-Expr)) = literal w ⨟ mark (codes "'") ⨟ mark (codes "(") ⨟ Spells 0 x ⨟ mark (codes ")")
  Spells n (CastName' w s (more_of-Expr x end_of-Expr)) = name w ⨟ mark (codes "'") ⨟ mark (codes "(") ⨟ Spells 0 x ⨟ mark (codes ")")
  Spells n (CastParen' p r (more_of-Expr y end_of-Expr) s (more_of-Expr x end_of-Expr)) =
      mark_at (codes "(") p ⨟ Spells 0 y ⨟ mark (codes ")") ⨟ mark (codes "'") ⨟ mark (codes "(") ⨟ Spells 0 x ⨟ mark (codes ")")
  Spells n (CastSign' g p s (more_of-Expr x end_of-Expr)) = key_at (sign_word g) p ⨟ mark (codes "'") ⨟ mark (codes "(") ⨟ Spells 0 x ⨟ mark (codes ")")
  Spells n (System' f p s (more_of-Expr x end_of-Expr)) = system_at (system_word f) p ⨟ mark (codes "(") ⨟ Spells 0 x ⨟ mark (codes ")")
  Spells n (Unary' op p s (more_of-Expr x end_of-Expr)) = mark_at (unary_mark op) p ⨟ Spells 13 x
  Spells n (Binary' s (more_of-Expr x end_of-Expr) op p r (more_of-Expr y end_of-Expr)) =
      when (n ≤ binds op) (Spells (left_level op) x ⨟ mark_at (binary_mark op) p ⨟ Spells (right_level op) y)
  Spells n (Choose' s (more_of-Expr x end_of-Expr) r (more_of-Expr y end_of-Expr) q (more_of-Expr z end_of-Expr)) =
      when (n ≤ 1) (Spells 2 x ⨟ mark (codes "?") ⨟ Spells 0 y ⨟ mark (codes ":") ⨟ Spells 1 z)

  -- at least one, and commas between them
  pub SpellsCommas : {m : Count} → Row_of-Expr m → Spelled
  SpellsCommas end_of-Expr = never
  SpellsCommas (more_of-Expr x all) = Spells 0 x ⨟ SpellsMore all

  pub SpellsMore : {m : Count} → Row_of-Expr m → Spelled
  SpellsMore end_of-Expr = nothing
  SpellsMore (more_of-Expr x all) = mark (codes ",") ⨟ Spells 0 x ⨟ SpellsMore all

  pub SpellsSelect : Select → Spelled
  SpellsSelect (Member p w) = mark_at (codes ".") p ⨟ name w
  SpellsSelect (Index' p s (more_of-Expr x end_of-Expr)) = mark_at (codes "[") p ⨟ Spells 0 x ⨟ mark (codes "]")
  SpellsSelect (Range' p s (more_of-Expr x end_of-Expr) m r (more_of-Expr y end_of-Expr)) =
      mark_at (codes "[") p ⨟ Spells 0 x ⨟ mark (range_text m) ⨟ Spells 0 y ⨟ mark (codes "]")

  -- A range is the last of its chain.
  pub SpellsSelects : {m : Count} → Row_of-Select m → Spelled
  SpellsSelects end_of-Select = nothing
  SpellsSelects (more_of-Select x end_of-Select) = SpellsSelect x
  SpellsSelects (more_of-Select x (more_of-Select y all)) = when (is_range x ≡ false) (SpellsSelect x ⨟ SpellsSelects (more_of-Select y all))
