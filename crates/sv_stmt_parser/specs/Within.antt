-- What constructs that hold their own kind have in common on lists of tokens: blocks, the branches of a condition, and loops.
use Rattle.std.specs.Prelude.{List, Option}
use Rattle.sv_outside.specs.declared.refusal.Place.{Place}
use Rattle.sv_outside.specs.declared.text.Token.{Token}
use Rattle.sv_tree.specs.declared.word.Word.{Word}
use Rattle.sv_cursor.specs.declared.sort.Keyword.TheVariants as key
use Rattle.sv_cursor.specs.Parsers.{Parser, ◌▷◌, ◌⊗◌, maybe_read}
use Rattle.sv_cursor.specs.Tests.{keyword_test, keyword}
use Rattle.sv_word_parser.specs.Combined.{◌▸◌}
use Rattle.sv_type_parser.specs.Lists.{while_told}
use Rattle.sv_stmt_parser.specs.Targets.{block_label, end_label}

-- The test tells something of the first token of a part, and a function value reads the part.
module _ {A C : Type 0} (test : Token → Option C) (part : Parser A) where
  -- behind the name of a block: its parts, `end`, and the label that repeats the name
  abbrev pub block_rest : Option Word → Parser (List A × Option Word)
  block_rest b = while_told test part ⊗ (keyword key.End ▸ end_label b)

  abbrev pub block : Parser (Place × (Option Word × (List A × Option Word)))
  block = keyword key.Begin ⊗ (block_label ▷ block_rest)

-- `else` and a body, where `else` comes next
unfoldable pub maybe_else : {A : Type 0} → Parser A → Parser (Option A)
maybe_else body = maybe_read (keyword_test key.Else) (keyword key.Else ▸ body)

-- the body of a condition, and the one behind `else`
abbrev pub branches : {A : Type 0} → Parser A → Parser (A × Option A)
branches body = body ⊗ maybe_else body

-- a loop with this head and this body
abbrev pub counted : {H A : Type 0} → Parser H → Parser A → Parser (Place × (H × A))
counted head body = keyword key.For ⊗ (head ⊗ body)
