-- More parts of which parsers on lists of tokens are made.
use Rattle.std.specs.Prelude.{List, Option, None}
use Rattle.sv_outside.specs.declared.text.Token.{Token}
use Rattle.sv_cursor.specs.declared.sort.Keyword.{Keyword}
use Rattle.sv_cursor.specs.declared.sort.Mark.{Mark as MarkName}
use Rattle.sv_cursor.specs.declared.sort.Mark.TheVariants as m
use Rattle.sv_cursor.specs.declared.sort.Sort.{Sort}
use Rattle.sv_cursor.specs.declared.sort.Sort.TheVariants as s
use Rattle.sv_cursor.specs.Sorts.{sort}
use Rattle.sv_cursor.specs.Tests.{mark_test, mark}
use Rattle.sv_cursor.specs.Parsers.{Parser, ◌<$>◌, ◌⊗◌, cons, many}

-- one after the other, of which the second or the first is kept
infixr 20 ◌▸◌
abbrev pub ◌▸◌ : {A B : Type 0} → Parser A → Parser B → Parser B
p ▸ q = (λ c. c.1) <$> (p ⊗ q)

infixr 20 ◌◂◌
abbrev pub ◌◂◌ : {A B : Type 0} → Parser A → Parser B → Parser A
p ◂ q = (λ c. c.0) <$> (p ⊗ q)

-- what a keyword tells
abbrev pub word_of : {A : Type 0} → (Keyword → Option A) → Sort → Option A
word_of of (s.Keyword word) = of word
word_of of _ = None

unfoldable pub word_test : {A : Type 0} → (Keyword → Option A) → Token → Option A
word_test of a = word_of of (sort a)

-- what a mark tells
abbrev pub sign_of : {A : Type 0} → (MarkName → Option A) → Sort → Option A
sign_of of (s.Mark name) = of name
sign_of of _ = None

unfoldable pub sign_test : {A : Type 0} → (MarkName → Option A) → Token → Option A
sign_test of a = sign_of of (sort a)

-- what a sort tells
unfoldable pub sort_test : {A : Type 0} → (Sort → Option A) → Token → Option A
sort_test of a = of (sort a)

-- one at least, with commas between them
abbrev pub listed : {A : Type 0} → Parser A → Parser (List A)
listed p = cons <$> (p ⊗ many (mark_test m.Comma) (mark m.Comma ▸ p))

-- one at least, as long as something is told of the first token
abbrev pub some_of : {A C : Type 0} → (Token → Option C) → Parser A → Parser (List A)
some_of test p = cons <$> (p ⊗ many test p)

-- what is read, as it is
abbrev pub kept : {A : Type 0} → A → A
kept a = a
