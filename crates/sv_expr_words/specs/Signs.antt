-- What a token says of the part of an expression that it begins or goes on with.
use Rattle.std.specs.Prelude.{ℕ, ◌+◌, Option, Some, None}
use Rattle.sv_outside.specs.declared.text.Token.{Token}
use Rattle.sv_tree.specs.declared.exprs.Sign.TheVariants as sign
use Rattle.sv_tree.specs.declared.exprs.Sign.{Sign}
use Rattle.sv_tree.specs.declared.exprs.UnaryOp.{UnaryOp}
use Rattle.sv_tree.specs.declared.exprs.UnaryOp.TheVariants as one
use Rattle.sv_tree.specs.declared.exprs.BinaryOp.{BinaryOp}
use Rattle.sv_tree.specs.declared.exprs.BinaryOp.TheVariants as two
use Rattle.sv_tree.specs.declared.exprs.RangeMark.{RangeMark}
use Rattle.sv_tree.specs.declared.exprs.RangeMark.TheVariants as range_mark
use Rattle.sv_tree.specs.GrammarExprs.{binds}
use Rattle.sv_cursor.specs.declared.sort.Keyword.{Keyword}
use Rattle.sv_cursor.specs.declared.sort.Keyword.TheVariants as key
use Rattle.sv_cursor.specs.declared.sort.Mark.{Mark as MarkName}
use Rattle.sv_cursor.specs.declared.sort.Mark.TheVariants as m
use Rattle.sv_cursor.specs.declared.sort.Sort.{Sort}
use Rattle.sv_cursor.specs.declared.sort.Sort.TheVariants as s
use Rattle.sv_cursor.specs.Sorts.{sort}
use Rattle.sv_expr_words.specs.declared.openers.Opener.{Opener}
use Rattle.sv_expr_words.specs.declared.openers.Opener.TheVariants as open_by
use Rattle.sv_expr_words.specs.declared.openers.SelectOpener.{SelectOpener}
use Rattle.sv_expr_words.specs.declared.openers.SelectOpener.TheVariants as select_by
use Rattle.sv_expr_words.specs.declared.openers.Joiner.{Joiner}
use Rattle.sv_expr_words.specs.declared.openers.Joiner.TheVariants as join_by

-- the mark of an operator
abbrev pub unary_name : UnaryOp → MarkName
unary_name one.Plus = m.Plus
unary_name one.Minus = m.Minus
unary_name one.LogicNot = m.Not
unary_name one.Not = m.Tilde
unary_name one.And = m.And
unary_name one.Nand = m.TildeAnd
unary_name one.Or = m.Or
unary_name one.Nor = m.TildeOr
unary_name one.Xor = m.Xor
unary_name one.TildeXor = m.TildeXor
unary_name one.XorTilde = m.XorTilde

abbrev pub binary_name : BinaryOp → MarkName
binary_name two.Power = m.Power
binary_name two.Mul = m.Star
binary_name two.Div = m.Slash
binary_name two.Rem = m.Percent
binary_name two.Add = m.Plus
binary_name two.Sub = m.Minus
binary_name two.Shl = m.ShiftLeft
binary_name two.Shr = m.ShiftRight
binary_name two.Sal = m.ArithmeticLeft
binary_name two.Sar = m.ArithmeticRight
binary_name two.Lt = m.Less
binary_name two.Le = m.LessEqual
binary_name two.Gt = m.Greater
binary_name two.Ge = m.GreaterEqual
binary_name two.Eq = m.Equal
binary_name two.Ne = m.NotEqual
binary_name two.And = m.And
binary_name two.Xor = m.Xor
binary_name two.TildeXor = m.TildeXor
binary_name two.XorTilde = m.XorTilde
binary_name two.Or = m.Or
binary_name two.LogicAnd = m.AndAnd
binary_name two.LogicOr = m.OrOr
binary_name two.Implies = m.Implies
binary_name two.Equivalent = m.Equivalent

abbrev pub sign_name : Sign → Keyword
sign_name sign.Signed = key.Signed
sign_name sign.Unsigned = key.Unsigned

abbrev pub range_name : RangeMark → MarkName
range_name range_mark.To = m.Colon
range_name range_mark.Up = m.PlusColon
range_name range_mark.Down = m.MinusColon

-- ---- what begins a part

abbrev pub unary_of : MarkName → Option UnaryOp
unary_of m.Plus = Some one.Plus
unary_of m.Minus = Some one.Minus
unary_of m.Not = Some one.LogicNot
unary_of m.Tilde = Some one.Not
unary_of m.And = Some one.And
unary_of m.TildeAnd = Some one.Nand
unary_of m.Or = Some one.Or
unary_of m.TildeOr = Some one.Nor
unary_of m.Xor = Some one.Xor
unary_of m.TildeXor = Some one.TildeXor
unary_of m.XorTilde = Some one.XorTilde
unary_of _ = None

abbrev pub opener_of_unary : Option UnaryOp → Option Opener
opener_of_unary (Some op) = Some (open_by.Unary op)
opener_of_unary None = None

abbrev pub opener_of_mark : MarkName → Option Opener
opener_of_mark m.LeftParen = Some open_by.Paren
opener_of_mark m.LeftBrace = Some open_by.Brace
opener_of_mark mark = opener_of_unary (unary_of mark)

abbrev pub opener_of_keyword : Keyword → Option Opener
opener_of_keyword key.Signed = Some (open_by.Sign sign.Signed)
opener_of_keyword key.Unsigned = Some (open_by.Sign sign.Unsigned)
opener_of_keyword _ = None

abbrev pub opener : Sort → Option Opener
opener s.Other = None
opener s.Id = Some open_by.Name
opener s.Literal = Some open_by.Literal
opener (s.Keyword word) = opener_of_keyword word
opener (s.Mark mark) = opener_of_mark mark
opener (s.System name) = Some (open_by.System name)

abbrev pub select_of_mark : MarkName → Option SelectOpener
select_of_mark m.Dot = Some select_by.Dot
select_of_mark m.LeftBracket = Some select_by.Bracket
select_of_mark _ = None

abbrev pub select_opener : Sort → Option SelectOpener
select_opener (s.Mark mark) = select_of_mark mark
select_opener _ = None

abbrev pub range_of_mark : MarkName → Option RangeMark
range_of_mark m.Colon = Some range_mark.To
range_of_mark m.PlusColon = Some range_mark.Up
range_of_mark m.MinusColon = Some range_mark.Down
range_of_mark _ = None

abbrev pub range_sign : Sort → Option RangeMark
range_sign (s.Mark mark) = range_of_mark mark
range_sign _ = None

-- ---- what goes on with an expression

abbrev pub binary_of : MarkName → Option BinaryOp
binary_of m.Power = Some two.Power
binary_of m.Star = Some two.Mul
binary_of m.Slash = Some two.Div
binary_of m.Percent = Some two.Rem
binary_of m.Plus = Some two.Add
binary_of m.Minus = Some two.Sub
binary_of m.ShiftLeft = Some two.Shl
binary_of m.ShiftRight = Some two.Shr
binary_of m.ArithmeticLeft = Some two.Sal
binary_of m.ArithmeticRight = Some two.Sar
binary_of m.Less = Some two.Lt
binary_of m.LessEqual = Some two.Le
binary_of m.Greater = Some two.Gt
binary_of m.GreaterEqual = Some two.Ge
binary_of m.Equal = Some two.Eq
binary_of m.NotEqual = Some two.Ne
binary_of m.And = Some two.And
binary_of m.Xor = Some two.Xor
binary_of m.TildeXor = Some two.TildeXor
binary_of m.XorTilde = Some two.XorTilde
binary_of m.Or = Some two.Or
binary_of m.AndAnd = Some two.LogicAnd
binary_of m.OrOr = Some two.LogicOr
binary_of m.Implies = Some two.Implies
binary_of m.Equivalent = Some two.Equivalent
binary_of _ = None

abbrev pub joiner_of_binary : Option BinaryOp → Option Joiner
joiner_of_binary (Some op) = Some (join_by.Binary op)
joiner_of_binary None = None

abbrev pub joiner_of_mark : MarkName → Option Joiner
joiner_of_mark m.Question = Some join_by.Choose
joiner_of_mark mark = joiner_of_binary (binary_of mark)

abbrev pub joiner : Sort → Option Joiner
joiner (s.Mark mark) = joiner_of_mark mark
joiner _ = None

-- one more than the level of the expression that it makes, and 0 for none
abbrev pub strength_of : Option Joiner → ℕ
strength_of (Some (join_by.Binary op)) = binds op + 1
strength_of (Some join_by.Choose) = 2
strength_of None = 0

-- ---- as tests of tokens

unfoldable pub opener_test : Token → Option Opener
opener_test a = opener (sort a)

unfoldable pub select_test : Token → Option SelectOpener
select_test a = select_opener (sort a)

unfoldable pub range_test : Token → Option RangeMark
range_test a = range_sign (sort a)

unfoldable pub joiner_test : Token → Option Joiner
joiner_test a = joiner (sort a)
