-- Lists with commas between their parts, and function values that read.
use Rattle.std.specs.Prelude.{ℕ, List, Option, Result}
use Rattle.std.specs.declared.alloc.Global.{Global}
use denote.Ref.{MutBor}
use Rattle.sv_outside.specs.declared.text.Token.{Token}
use Rattle.sv_cursor.specs.declared.error.ParseErr.{ParseErr}
use Rattle.sv_cursor.specs.declared.sort.Keyword.TheVariants as key
use Rattle.sv_cursor.specs.declared.sort.Mark.TheVariants as m
use Rattle.sv_cursor.specs.Parsers.{Parser, Reads, many}
use Rattle.sv_cursor.specs.Tests.{mark_test, mark, keyword}
use Rattle.sv_word_parser.specs.Combined.{◌▸◌, ◌◂◌}

-- a comma and a part
unfoldable pub behind_comma : {A : Type 0} → Parser A → Parser A
behind_comma p = mark m.Comma ▸ p

-- a colon and a part
unfoldable pub behind_colon : {A : Type 0} → Parser A → Parser A
behind_colon p = mark m.Colon ▸ p

-- `else` and a part
unfoldable pub behind_else : {A : Type 0} → Parser A → Parser A
behind_else p = keyword key.Else ▸ p

-- the parts behind the first
unfoldable pub more : {A : Type 0} → Parser A → Parser (List A)
more p = many (mark_test m.Comma) (behind_comma p)

-- parts, as long as something is told of the first token
unfoldable pub while_told : {A C : Type 0} → (Token → Option C) → Parser A → Parser (List A)
while_told test p = many test p

abbrev pub braced : {A : Type 0} → Parser A → Parser A
braced p = mark m.LeftBrace ▸ (p ◂ mark m.RightBrace)

-- A function value reads to a depth.
pub record Nests {A : Type 0} (p : Parser A) (depth : ℕ) (pre : Global → MutBor (List Token) → ℕ → Type 0)
    (post : Global → MutBor (List Token) → ℕ → Result A ParseErr → MutBor (List Token) → Type 0) : Type 0 where
  pub callable : (alloc : Global) (old : MutBor (List Token)) → pre alloc old depth
  pub reads : (alloc : Global) (old new : MutBor (List Token)) (r : Result A ParseErr) → post alloc old depth r new → Reads (p old.now) r new.now
