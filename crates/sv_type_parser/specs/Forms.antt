-- Types, parameters and ports on lists of tokens.
use Rattle.std.specs.Prelude.{ℕ, zero, suc, List, [], ◌∷◌, length, Option, Some, None, Err}
use Rattle.sv_outside.specs.declared.refusal.Place.{Place}
use Rattle.sv_tree.specs.declared.word.Word.{Word}
use Rattle.sv_tree.specs.declared.exprs.Expr.{Expr}
use Rattle.sv_tree.specs.declared.exprs.Sign.{Sign}
use Rattle.sv_tree.specs.declared.forms.BitsWord.{BitsWord}
use Rattle.sv_tree.specs.declared.forms.Range.{Range}
use Rattle.sv_tree.specs.declared.forms.EnumLabel.{EnumLabel}
use Rattle.sv_tree.specs.declared.forms.TypeTree.{TypeTree}
use Rattle.sv_tree.specs.declared.forms.TypeTree.TheVariants as ty
use Rattle.sv_tree.specs.declared.forms.Member.{Member}
use Rattle.sv_tree.specs.declared.forms.Member.TheVariants as mem
use Rattle.sv_tree.specs.declared.forms.Typedef.{Typedef}
use Rattle.sv_cursor.specs.declared.error.ParseErr.TheVariants.{TooDeep}
use Rattle.sv_cursor.specs.declared.sort.Keyword.TheVariants as key
use Rattle.sv_cursor.specs.declared.sort.Mark.TheVariants as m
use Rattle.sv_cursor.specs.Parsers.{Parser, and_then, ◌<$>◌, ◌⊗◌, pure, refuse, too_deep, token, by_told, maybe_read, many}
use Rattle.sv_cursor.specs.Tests.{mark_test, id_test, mark, keyword}
use Rattle.sv_expr_reader.specs.Reading.{expr}
use Rattle.sv_word_parser.specs.declared.openers.TypeOpener.{TypeOpener}
use Rattle.sv_word_parser.specs.declared.openers.TypeOpener.TheVariants as type_by
use Rattle.sv_word_parser.specs.Combined.{◌▸◌, ◌◂◌, word_test, sort_test, listed, some_of}
use Rattle.sv_word_parser.specs.Words.{sign_by_word, bits_by_word, type_by_sort}

-- an expression
abbrev pub expression : Parser Expr
expression = expr 201 0

abbrev pub made_range : Place × (Expr × Expr) → Range
made_range c = record { place = c.0; left = c.1.0; right = c.1.1 }

unfoldable pub range : Parser Range
range = made_range <$> (mark m.LeftBracket ⊗ (expression ⊗ (mark m.Colon ▸ (expression ◂ mark m.RightBracket))))

unfoldable pub ranges : Parser (List Range)
ranges = many (mark_test m.LeftBracket) range

-- `=` and an expression
unfoldable pub given : Parser Expr
given = mark m.Assign ▸ expression

unfoldable pub names : Parser (List Word)
names = listed (token id_test)

unfoldable pub maybe_sign : Parser (Option Sign)
maybe_sign = maybe_read (word_test sign_by_word) (token (word_test sign_by_word))

abbrev pub made_label : Word × Option Expr → EnumLabel
made_label c = record { name = c.0; value = c.1 }

unfoldable pub enum_label : Parser EnumLabel
enum_label = made_label <$> (token id_test ⊗ maybe_read (mark_test m.Assign) given)

unfoldable pub maybe_given : Parser (Option Expr)
maybe_given = maybe_read (mark_test m.Assign) given

unfoldable pub comma_name : Parser Word
comma_name = mark m.Comma ▸ token id_test

unfoldable pub comma_label : Parser EnumLabel
comma_label = mark m.Comma ▸ enum_label

unfoldable pub other_labels : Parser (List EnumLabel)
other_labels = many (mark_test m.Comma) comma_label

unfoldable pub labels : Parser (List EnumLabel)
labels = listed enum_label

unfoldable pub range_if : Parser (Option Range)
range_if = maybe_read (mark_test m.LeftBracket) range

unfoldable pub other_names : Parser (List Word)
other_names = many (mark_test m.Comma) comma_name

unfoldable pub names_end : Parser (List Word)
names_end = names ◂ mark m.Semicolon

-- ---- types

abbrev pub made_word_vector : BitsWord × (Option Sign × List Range) → TypeTree
made_word_vector c = ty.Vector (Some c.0) c.1.0 c.1.1

unfoldable pub word_vector : Parser TypeTree
word_vector = made_word_vector <$> (token (word_test bits_by_word) ⊗ (maybe_sign ⊗ ranges))

abbrev pub made_sign_vector : Sign × List Range → TypeTree
made_sign_vector c = ty.Vector None (Some c.0) c.1

unfoldable pub sign_vector : Parser TypeTree
sign_vector = made_sign_vector <$> (token (word_test sign_by_word) ⊗ ranges)

abbrev pub made_range_vector : Range × List Range → TypeTree
made_range_vector c = ty.Vector None None (c.0 ∷ c.1)

unfoldable pub range_vector : Parser TypeTree
range_vector = made_range_vector <$> (range ⊗ ranges)

unfoldable pub whole : Parser TypeTree
whole = (λ _. ty.Integer) <$> keyword key.Integer

abbrev pub made_enum : BitsWord × (Option Sign × (Option Range × List EnumLabel)) → TypeTree
made_enum c = ty.Enum c.0 c.1.0 c.1.1.0 c.1.1.1

unfoldable pub enumeration : Parser TypeTree
enumeration = made_enum <$> (keyword key.Enum ▸ (token (word_test bits_by_word) ⊗ (maybe_sign ⊗ (maybe_read (mark_test m.LeftBracket) range ⊗ (mark m.LeftBrace ▸ (listed enum_label ◂ mark m.RightBrace))))))

abbrev pub made_named : Word × List Range → TypeTree
made_named c = ty.Named c.0 c.1

unfoldable pub named : Parser TypeTree
named = made_named <$> (token id_test ⊗ ranges)

abbrev pub made_member : TypeTree × List Word → Member
made_member c = mem.Of c.0 c.1

abbrev pub made_struct : Option Sign × (List Member × List Range) → TypeTree
made_struct c = ty.Struct c.0 c.1.0 c.1.1

-- A function value reads the types of members.
module _ (form : Parser TypeTree) where
  unfoldable pub member : Parser Member
  member = made_member <$> (form ⊗ (names ◂ mark m.Semicolon))

  unfoldable pub other_members : Parser (List Member)
  other_members = many (sort_test type_by_sort) member

  unfoldable pub members : Parser (List Member)
  members = some_of (sort_test type_by_sort) member

  unfoldable pub structure : Parser TypeTree
  structure = made_struct <$> (keyword key.Struct ▸ (keyword key.Packed ▸ (maybe_sign ⊗ (mark m.LeftBrace ▸ (members ⊗ (mark m.RightBrace ▸ ranges))))))

  abbrev pub type_for : TypeOpener → Parser TypeTree
  type_for type_by.Word = word_vector
  type_for type_by.Sign = sign_vector
  type_for type_by.Range = range_vector
  type_for type_by.Integer = whole
  type_for type_by.Struct = structure
  type_for type_by.Enum = enumeration
  type_for type_by.Name = named

  unfoldable pub type_level : Parser TypeTree
  type_level = by_told (sort_test type_by_sort) type_for refuse

-- Behind a name: where a range follows, the name lies too deep, and so many tokens stand from it on.
abbrev pub unranged : ℕ → Word → Parser TypeTree
unranged left w = by_told (mark_test m.LeftBracket) (λ _ i. Err (TooDeep left (length i))) (pure (ty.Named w []))

-- a name that no range follows is no part of the types; any other type lies too deep here
unfoldable pub name_alone : Parser TypeTree
name_alone = by_told id_test (λ _ i. and_then (token id_test i) (unranged (length i))) too_deep

-- types, of which at most so many hold a token
unfoldable pub form : ℕ → Parser TypeTree
form zero = name_alone
form (suc t) = type_level (form t)

abbrev pub made_typedef : TypeTree × Word → Typedef
made_typedef c = record { form = c.0; name = c.1 }

unfoldable pub typedef : Parser Typedef
typedef = made_typedef <$> (keyword key.Typedef ▸ (form 200 ⊗ (token id_test ◂ mark m.Semicolon)))
