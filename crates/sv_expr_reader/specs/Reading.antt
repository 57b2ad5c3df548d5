-- Expressions on lists of tokens, by precedence climbing.
use Rattle.std.specs.Prelude.{ℕ, zero, suc, ◌-◌, if◌then◌else◌, nat_lt, nat_le, max, List, [], ◌∷◌, length, Option, Some, None, Err}
use Rattle.sv_outside.specs.declared.refusal.Place.{Place}
use Rattle.sv_outside.specs.declared.text.Token.{Token}
use Rattle.sv_tree.specs.declared.word.Word.{Word}
use Rattle.sv_tree.specs.declared.exprs.Sign.{Sign}
use Rattle.sv_tree.specs.declared.exprs.UnaryOp.{UnaryOp}
use Rattle.sv_tree.specs.declared.exprs.RangeMark.{RangeMark}
use Rattle.sv_tree.specs.declared.exprs.Expr.{Expr}
use Rattle.sv_tree.specs.declared.exprs.Expr.TheVariants as e
use Rattle.sv_tree.specs.declared.exprs.Select.{Select}
use Rattle.sv_tree.specs.declared.exprs.Select.TheVariants as sel
use Rattle.sv_tree.specs.GrammarExprs.{is_range, right_level}
use Rattle.sv_tree.specs.Nesting.{Depths, expr_depths}
use Rattle.sv_cursor.specs.declared.error.ParseErr.{ParseErr}
use Rattle.sv_cursor.specs.declared.error.ParseErr.TheVariants.{TooDeep}
use Rattle.sv_cursor.specs.declared.sort.Mark.TheVariants as m
use Rattle.sv_cursor.specs.Parsers.{Parser, and_then, ◌>>=◌, ◌<$>◌, ◌⊗◌, pure, refuse, too_deep, token, by_told, maybe_read, many, chain, guarded}
use Rattle.sv_cursor.specs.Tests.{mark_test, id_test, literal_test, system_test, mark, keyword}
use Rattle.sv_expr_words.specs.declared.openers.Opener.{Opener}
use Rattle.sv_expr_words.specs.declared.openers.Opener.TheVariants as open_by
use Rattle.sv_expr_words.specs.declared.openers.SelectOpener.{SelectOpener}
use Rattle.sv_expr_words.specs.declared.openers.SelectOpener.TheVariants as select_by
use Rattle.sv_expr_words.specs.declared.openers.Joiner.{Joiner}
use Rattle.sv_expr_words.specs.declared.openers.Joiner.TheVariants as join_by
use Rattle.sv_expr_reader.specs.declared.tails.NameTail.{NameTail}
use Rattle.sv_expr_reader.specs.declared.tails.NameTail.TheVariants as tail
use Rattle.sv_expr_reader.specs.declared.tails.BraceTail.{BraceTail}
use Rattle.sv_expr_reader.specs.declared.tails.BraceTail.TheVariants as braces
use Rattle.sv_expr_words.specs.Signs.{opener_test, select_test, range_test, joiner_test, strength_of, unary_name, binary_name, sign_name}

-- how many expressions hold the token of the expression that most hold
unfoldable pub peak : Depths → ℕ
peak [] = 0
peak (n ∷ all) = max n.exprs (peak all)

abbrev pub height : Expr → ℕ
height x = peak (expr_depths x)

-- the number of the first token that so many expressions hold
unfoldable pub first_at : ℕ → Depths → ℕ
first_at d [] = 0
first_at d (n ∷ all) = if nat_le d n.exprs then 0 else suc (first_at d all)

-- The refusal of a tree that begins with the first list, where one operator more follows: so many expressions hold its token, and the operator shows it.
abbrev pub too_high : ℕ → Expr → List Token → List Token → ParseErr
too_high d x from i = TooDeep (length from - first_at d (expr_depths x)) (length i)

-- ---- what parts make

abbrev pub made_literal : Word × Option Expr → Expr
made_literal (w, None) = e.Literal w
made_literal (w, Some x) = e.CastLiteral w x

abbrev pub made_name : Word × NameTail → Expr
made_name (w, tail.CastTo x) = e.CastName w x
made_name (w, tail.Selected all) = e.Name w all

abbrev pub made_paren : (Place × (Expr × Place)) × Option Expr → Expr
made_paren (p, None) = e.Paren p.0 p.1.0
made_paren (p, Some x) = e.CastParen p.0 p.1.0 x

abbrev pub made_brace : Place × (Expr × BraceTail) → Expr
made_brace (p, (x, braces.Copied all)) = e.Repeat p x all
made_brace (p, (x, braces.Followed all)) = e.Concat p (x ∷ all)

abbrev pub made_bracket : Place × (Expr × (Option (RangeMark × Expr) × Place)) → Select
made_bracket (p, (x, (None, q))) = sel.Index p x
made_bracket (p, (x, (Some r, q))) = sel.Range p x r.0 r.1

-- A function value reads the parts of an expression, which lie one deeper. So many parts may hold one of these.
module _ (d : ℕ) (expr : ℕ → Parser Expr) where
  -- a part in parentheses
  abbrev pub parens : Parser (Place × (Expr × Place))
  parens = mark m.LeftParen ⊗ expr 0 ⊗ mark m.RightParen

  -- what is cast
  unfoldable pub cast : Parser Expr
  cast = (λ c. c.1.1.0) <$> (mark m.Tick ⊗ parens)

  abbrev pub maybe_cast : Parser (Option Expr)
  maybe_cast = maybe_read (mark_test m.Tick) cast

  unfoldable pub literal : Parser Expr
  literal = made_literal <$> (token literal_test ⊗ maybe_read (mark_test m.Tick) cast)

  -- ---- selects

  unfoldable pub member : Parser Select
  member = guarded d ((λ c. sel.Member c.0 c.1) <$> (mark m.Dot ⊗ token id_test))

  abbrev pub range : Parser (RangeMark × Expr)
  range = token range_test ⊗ expr 0

  abbrev pub maybe_range : Parser (Option (RangeMark × Expr))
  maybe_range = maybe_read range_test range

  unfoldable pub bracket : Parser Select
  bracket = made_bracket <$> (mark m.LeftBracket ⊗ expr 0 ⊗ maybe_range ⊗ mark m.RightBracket)

  abbrev pub select_for : SelectOpener → Parser Select
  select_for select_by.Dot = member
  select_for select_by.Bracket = bracket

  unfoldable pub select : Parser Select
  select = by_told select_test select_for refuse

  -- a range is the last one
  unfoldable pub selects : Parser (List Select)
  selects = chain select_test is_range select

  unfoldable pub name_tail : Parser NameTail
  name_tail = by_told (mark_test m.Tick) (λ _. tail.CastTo <$> cast) (tail.Selected <$> selects)

  unfoldable pub named : Parser Expr
  named = made_name <$> (token id_test ⊗ name_tail)

  -- ---- brackets

  unfoldable pub parenthesized : Parser Expr
  parenthesized = made_paren <$> (parens ⊗ maybe_read (mark_test m.Tick) cast)

  unfoldable pub after_comma : Parser Expr
  after_comma = (λ c. c.1) <$> (mark m.Comma ⊗ expr 0)

  unfoldable pub more : Parser (List Expr)
  more = many (mark_test m.Comma) after_comma

  unfoldable pub copies : Parser (List Expr)
  copies = (λ c. c.1.0.0 ∷ c.1.0.1) <$> (mark m.LeftBrace ⊗ (expr 0 ⊗ more) ⊗ mark m.RightBrace ⊗ mark m.RightBrace)

  -- the other parts, up to the closing brace
  abbrev pub closed_more : Parser (List Expr × Place)
  closed_more = more ⊗ mark m.RightBrace

  unfoldable pub brace_tail : Parser BraceTail
  brace_tail = by_told (mark_test m.LeftBrace) (λ _. braces.Copied <$> copies) ((λ c. braces.Followed c.0) <$> closed_more)

  unfoldable pub braced : Parser Expr
  braced = made_brace <$> (mark m.LeftBrace ⊗ expr 0 ⊗ brace_tail)

  -- ---- what has no operator between two of its parts

  unfoldable pub cast_sign : Sign → Parser Expr
  cast_sign g = (λ c. e.CastSign g c.0 c.1) <$> (keyword (sign_name g) ⊗ cast)

  unfoldable pub called : Parser Expr
  called = (λ c. e.System c.0.0 c.0.1 c.1.1.0) <$> (token system_test ⊗ parens)

  unfoldable pub prefixed : UnaryOp → Parser Expr
  prefixed op = (λ c. e.Unary op c.0 c.1) <$> (mark (unary_name op) ⊗ expr 13)

  abbrev pub prefix_for : Opener → Parser Expr
  prefix_for open_by.Literal = literal
  prefix_for open_by.Name = named
  prefix_for open_by.Paren = parenthesized
  prefix_for open_by.Brace = braced
  prefix_for (open_by.Sign g) = cast_sign g
  prefix_for (open_by.System f) = called
  prefix_for (open_by.Unary op) = prefixed op

  unfoldable pub prefix : Parser Expr
  prefix = by_told opener_test prefix_for refuse

  -- ---- operators

  abbrev pub operated : Expr → Joiner → Parser Expr
  operated left (join_by.Binary op) = (λ c. e.Binary left op c.0 c.1) <$> (mark (binary_name op) ⊗ expr (right_level op))
  operated left join_by.Choose = (λ c. e.Choose left c.1.0 c.1.1.1) <$> (mark m.Question ⊗ expr 0 ⊗ mark m.Colon ⊗ expr 1)

  -- Operators that are looser than none of this level, behind what was read from the first list on.
  unfoldable pub climb : ℕ → List Token → ℕ → Expr → Parser Expr
  climb least from zero left = pure left
  climb least from (suc n) left =
      by_told joiner_test
      (λ j. if nat_le (strength_of (Some j)) least then pure left
      else (if nat_lt (height left) d then (operated left j >>= climb least from n) else (λ i. Err (too_high d left from i))))
      (pure left)

  unfoldable pub level : ℕ → Parser Expr
  level least = λ i. and_then (prefix i) (climb least i (length i))

-- Expressions of a level, in which less than so many parts hold a token.
unfoldable pub expr : ℕ → ℕ → Parser Expr
expr zero least = too_deep
expr (suc d) least = level d (expr d) least
