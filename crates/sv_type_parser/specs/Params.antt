-- Parameters, ports and names with types on lists of tokens.
use Rattle.std.specs.Prelude.{List, Option, Some, None}
use Rattle.sv_tree.specs.declared.word.Word.{Word}
use Rattle.sv_tree.specs.declared.exprs.Expr.{Expr}
use Rattle.sv_tree.specs.declared.exprs.Sign.{Sign}
use Rattle.sv_tree.specs.declared.forms.WholeWord.{WholeWord}
use Rattle.sv_tree.specs.declared.forms.Range.{Range}
use Rattle.sv_tree.specs.declared.forms.TypeTree.{TypeTree}
use Rattle.sv_tree.specs.declared.forms.TypeTree.TheVariants as ty
use Rattle.sv_tree.specs.declared.design.ParamWord.{ParamWord}
use Rattle.sv_tree.specs.declared.design.ParamBits.{ParamBits}
use Rattle.sv_tree.specs.declared.design.ParamType.{ParamType}
use Rattle.sv_tree.specs.declared.design.ParamType.TheVariants as param_type_of
use Rattle.sv_tree.specs.declared.design.ParPort.{ParPort}
use Rattle.sv_tree.specs.declared.design.ParamItem.{ParamItem}
use Rattle.sv_tree.specs.declared.design.Param.{Param}
use Rattle.sv_tree.specs.declared.design.Way.{Way}
use Rattle.sv_tree.specs.declared.design.NetWord.{NetWord}
use Rattle.sv_tree.specs.declared.design.Port.{Port}
use Rattle.sv_cursor.specs.declared.sort.Mark.TheVariants as m
use Rattle.sv_cursor.specs.Parsers.{Parser, ◌<$>◌, ◌⊗◌, refuse, token, by_told, maybe_read, many}
use Rattle.sv_cursor.specs.Tests.{mark_test, id_test, mark}
use Rattle.sv_word_parser.specs.declared.openers.ParamOpener.{ParamOpener}
use Rattle.sv_word_parser.specs.declared.openers.ParamOpener.TheVariants as param_by
use Rattle.sv_word_parser.specs.Combined.{◌▸◌, ◌◂◌, word_test, sort_test, listed}
use Rattle.sv_word_parser.specs.Words.{sign_by_word, whole_by_word, param_bits_by_word, param_by_word, way_by_word, net_by_word, param_type_by_sort, word_type_by_sort, behind_by_sort}
use Rattle.sv_type_parser.specs.Forms.{range, ranges, range_if, given, maybe_sign, form}

-- ---- types of parameters

abbrev pub made_whole : WholeWord × Option Sign → ParamType
made_whole c = param_type_of.Whole c.0 c.1

unfoldable pub whole_type : Parser ParamType
whole_type = made_whole <$> (token (word_test whole_by_word) ⊗ maybe_sign)

abbrev pub made_word_bits : ParamBits × (Option Sign × Option Range) → ParamType
made_word_bits c = param_type_of.Bits (Some c.0) c.1.0 c.1.1

unfoldable pub word_bits : Parser ParamType
word_bits = made_word_bits <$> (token (word_test param_bits_by_word) ⊗ (maybe_sign ⊗ range_if))

abbrev pub made_sign_bits : Sign × Option Range → ParamType
made_sign_bits c = param_type_of.Bits None (Some c.0) c.1

unfoldable pub sign_bits : Parser ParamType
sign_bits = made_sign_bits <$> (token (word_test sign_by_word) ⊗ range_if)

abbrev pub made_range_bits : Range → ParamType
made_range_bits r = param_type_of.Bits None None (Some r)

unfoldable pub range_bits : Parser ParamType
range_bits = made_range_bits <$> range

abbrev pub param_type_for : ParamOpener → Parser ParamType
param_type_for param_by.Whole = whole_type
param_type_for param_by.Word = word_bits
param_type_for param_by.Sign = sign_bits
param_type_for param_by.Range = range_bits

unfoldable pub param_type : Parser ParamType
param_type = by_told (sort_test param_type_by_sort) param_type_for refuse

unfoldable pub maybe_param_type : Parser (Option ParamType)
maybe_param_type = maybe_read (sort_test param_type_by_sort) param_type

-- ---- parameters

abbrev pub made_par_port : Option ParamWord × (Option ParamType × (Word × Expr)) → ParPort
made_par_port c = record { word = c.0; form = c.1.0; name = c.1.1.0; value = c.1.1.1 }

unfoldable pub par_port : Parser ParPort
par_port = made_par_port <$> (maybe_read (word_test param_by_word) (token (word_test param_by_word)) ⊗ (maybe_param_type ⊗ (token id_test ⊗ given)))

abbrev pub made_param_item : Word × Expr → ParamItem
made_param_item c = record { name = c.0; value = c.1 }

unfoldable pub param_item : Parser ParamItem
param_item = made_param_item <$> (token id_test ⊗ given)

unfoldable pub comma_item : Parser ParamItem
comma_item = mark m.Comma ▸ param_item

unfoldable pub other_items : Parser (List ParamItem)
other_items = many (mark_test m.Comma) comma_item

unfoldable pub param_items : Parser (List ParamItem)
param_items = listed param_item

unfoldable pub maybe_param_word : Parser (Option ParamWord)
maybe_param_word = maybe_read (word_test param_by_word) (token (word_test param_by_word))

abbrev pub made_param : ParamWord × (Option ParamType × List ParamItem) → Param
made_param c = record { word = c.0; form = c.1.0; list = c.1.1 }

unfoldable pub param : Parser Param
param = made_param <$> (token (word_test param_by_word) ⊗ (maybe_param_type ⊗ (listed param_item ◂ mark m.Semicolon)))

-- ---- names with types

-- a type and a name, or a name alone
abbrev pub TypedName : Type 0
TypedName = Option TypeTree × Word

abbrev pub made_typed : TypeTree × Word → TypedName
made_typed c = (Some c.0, c.1)

-- A name, and where ranges or a name follow, these: then the first name is the type's.
abbrev pub made_untyped : Word × Option (List Range × Word) → TypedName
made_untyped (w, None) = (None, w)
made_untyped (w, Some c) = (Some (ty.Named w c.0), c.1)

unfoldable pub behind_type : Parser (List Range × Word)
behind_type = ranges ⊗ token id_test

unfoldable pub untyped : Parser TypedName
untyped = made_untyped <$> (token id_test ⊗ maybe_read (sort_test behind_by_sort) behind_type)

unfoldable pub typed : Parser TypedName
typed = made_typed <$> (form 200 ⊗ token id_test)

unfoldable pub typed_name : Parser TypedName
typed_name = by_told (sort_test word_type_by_sort) (λ _. typed) untyped

-- ---- ports

abbrev pub made_port : Option Way × (Option NetWord × TypedName) → Port
made_port c = record { way = c.0; kind = c.1.0; form = c.1.1.0; name = c.1.1.1 }

unfoldable pub port : Parser Port
port = made_port <$> (maybe_read (word_test way_by_word) (token (word_test way_by_word)) ⊗ (maybe_read (word_test net_by_word) (token (word_test net_by_word)) ⊗ typed_name))
