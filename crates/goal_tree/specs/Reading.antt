-- Files of goals as parsers on lists of tokens, a name for each function of the code.
use Rattle.std.specs.Prelude.{ℕ, ◌-◌, Bool, false, List, [], ◌∷◌, length, drop, codes, Option, Ok, Err}
use Rattle.std.specs.Str.{bytes_eq}
use Rattle.sv_outside.specs.declared.refusal.Place.{Place}
use Rattle.sv_outside.specs.declared.text.Kind.{Kind}
use Rattle.sv_outside.specs.declared.text.Kind.TheVariants as k
use Rattle.sv_outside.specs.declared.text.Token.{Token}
use Rattle.sv_tree.specs.declared.word.Word.{Word}
use Rattle.sv_tree.specs.declared.exprs.Expr.{Expr}
use Rattle.sv_tree.specs.Spelling.{Text}
use Rattle.sv_cursor.specs.declared.error.ParseErr.TheVariants.{Syntax}
use Rattle.sv_cursor.specs.declared.sort.Mark.TheVariants as m
use Rattle.sv_cursor.specs.Parsers.{Parser, and_then, ◌<$>◌, ◌⊗◌, token, cons, many}
use Rattle.sv_cursor.specs.Tests.{if_so, id_test, mark}
use Rattle.sv_expr_reader.specs.Reading.{expr}
use Rattle.goal_tree.specs.declared.tree.GoalTree.{GoalTree}

-- ---- parsers made of others

-- one after the other, of which the second or the first is kept
infixr 20 ◌▸◌
abbrev pub ◌▸◌ : {A B : Type 0} → Parser A → Parser B → Parser B
p ▸ q = (λ c. c.1) <$> (p ⊗ q)

infixr 20 ◌◂◌
abbrev pub ◌◂◌ : {A B : Type 0} → Parser A → Parser B → Parser A
p ◂ q = (λ c. c.0) <$> (p ⊗ q)

-- one at least, as long as something is told of the first token
abbrev pub some_of : {A C : Type 0} → (Token → Option C) → Parser A → Parser (List A)
some_of test p = cons <$> (p ⊗ many test p)

-- ---- the form of a file

abbrev pub same : Text → Text → Bool
same a b = bytes_eq a b

-- a word of that text
abbrev pub is_word_of : Text → Kind → Text → Bool
is_word_of text k.Word t = same t text
is_word_of text _ t = false

-- the place of such a word
unfoldable pub word_test : Text → Token → Option Place
word_test text a = if_so (is_word_of text a.kind a.text) a.place

-- the last so many tokens
abbrev pub last : ℕ → List Token → List Token
last n tokens = drop (length tokens - n) tokens

-- an expression, in which at most 200 expressions hold a token
abbrev pub expression : Parser Expr
expression = expr 201 0

unfoldable pub statement : Text → Parser Expr
statement text = token (word_test text) ▸ (expression ◂ mark m.Semicolon)

unfoldable pub statements : Text → Parser (List Expr)
statements text = many (word_test text) (statement text)

unfoldable pub some_statements : Text → Parser (List Expr)
some_statements text = some_of (word_test text) (statement text)

abbrev pub made_goal : Word × (List Expr × List Expr) → GoalTree
made_goal c = record { name = c.0; hyps = c.1.0; claims = c.1.1 }

-- the hypotheses and the claims of a goal, up to the closing brace
abbrev pub parts : Parser (List Expr × List Expr)
parts = statements (codes "hyp") ⊗ (some_statements (codes "claim") ◂ mark m.RightBrace)

unfoldable pub goal : Parser GoalTree
goal = made_goal <$> (token (word_test (codes "goal")) ▸ (token id_test ⊗ (mark m.LeftBrace ▸ parts)))

unfoldable pub more_goals : Parser (List GoalTree)
more_goals = many (word_test (codes "goal")) goal

unfoldable pub goals : Parser (List GoalTree)
goals = some_of (word_test (codes "goal")) goal

abbrev pub ended : List GoalTree → Parser (List GoalTree)
ended x [] = Ok (x, [])
ended x (a ∷ t) = Err (Syntax (length (a ∷ t)))

-- the whole file
unfoldable pub source : Parser (List GoalTree)
source = λ i. and_then (goals i) ended
