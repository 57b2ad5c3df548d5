-- Instances, and what else begins with a name, on lists of tokens.
use Rattle.std.specs.Prelude.{List, [], ◌∷◌, Option, Some, None}
use Rattle.sv_tree.specs.declared.word.Word.{Word}
use Rattle.sv_tree.specs.declared.exprs.Expr.{Expr}
use Rattle.sv_tree.specs.declared.forms.Range.{Range}
use Rattle.sv_tree.specs.declared.forms.TypeTree.TheVariants as ty
use Rattle.sv_tree.specs.declared.design.Pin.{Pin}
use Rattle.sv_tree.specs.declared.design.NamedPin.{NamedPin}
use Rattle.sv_tree.specs.declared.design.Pins.{Pins}
use Rattle.sv_tree.specs.declared.design.Pins.TheVariants as pins_of
use Rattle.sv_tree.specs.declared.design.One.{One}
use Rattle.sv_tree.specs.declared.design.Inst.{Inst}
use Rattle.sv_tree.specs.declared.design.Item.{Item}
use Rattle.sv_tree.specs.declared.design.Item.TheVariants as it
use Rattle.sv_cursor.specs.declared.sort.Mark.TheVariants as m
use Rattle.sv_cursor.specs.Parsers.{Parser, ◌<$>◌, ◌⊗◌, refuse, token, by_told, maybe_read, many}
use Rattle.sv_cursor.specs.Tests.{mark_test, id_test, mark}
use Rattle.sv_expr_words.specs.Signs.{opener_test}
use Rattle.sv_instance_parser.specs.declared.openers.PinsOpener.{PinsOpener}
use Rattle.sv_instance_parser.specs.declared.openers.PinsOpener.TheVariants as pins_by
use Rattle.sv_word_parser.specs.declared.openers.TailOpener.{TailOpener}
use Rattle.sv_word_parser.specs.declared.openers.TailOpener.TheVariants as tail_by
use Rattle.sv_instance_parser.specs.declared.tails.NameTail.{NameTail}
use Rattle.sv_instance_parser.specs.declared.tails.NameTail.TheVariants as name_tail_of
use Rattle.sv_instance_parser.specs.declared.tails.PlainTail.{PlainTail}
use Rattle.sv_instance_parser.specs.declared.tails.PlainTail.TheVariants as plain_tail_of
use Rattle.sv_word_parser.specs.Combined.{◌▸◌, ◌◂◌, sort_test, listed, some_of}
pub use Rattle.sv_word_parser.specs.Connections.{made_pin}
use Rattle.sv_word_parser.specs.Words.{tail_by_sort}
use Rattle.sv_instance_parser.specs.Pins.{pins_by_sort}
use Rattle.sv_type_parser.specs.Forms.{expression, range, names}

-- ---- connections

-- an expression in parentheses, or none
unfoldable pub pin_inside : Parser (Option Expr)
pin_inside = mark m.LeftParen ▸ (maybe_read opener_test expression ◂ mark m.RightParen)

unfoldable pub pin : Parser Pin
pin = made_pin <$> maybe_read (mark_test m.LeftParen) pin_inside

abbrev pub made_named_pin : Word × Pin → NamedPin
made_named_pin c = record { name = c.0; pin = c.1 }

unfoldable pub named_pin : Parser NamedPin
named_pin = made_named_pin <$> (mark m.Dot ▸ (token id_test ⊗ pin))

abbrev pub pins_for : PinsOpener → Parser Pins
pins_for pins_by.Named = pins_of.Named <$> listed named_pin
pins_for pins_by.Ordered = pins_of.Ordered <$> listed expression

unfoldable pub pins : Parser Pins
pins = by_told (sort_test pins_by_sort) pins_for refuse

-- connections up to the `)`, or none
unfoldable pub pins_inside : Parser (Option Pins)
pins_inside = mark m.LeftParen ▸ (maybe_read (sort_test pins_by_sort) pins ◂ mark m.RightParen)

abbrev pub made_one : Word × Option Pins → One
made_one c = record { name = c.0; pins = c.1 }

unfoldable pub one : Parser One
one = made_one <$> (token id_test ⊗ pins_inside)

-- ---- behind the name that begins an item

unfoldable pub more_ones : Parser (List One)
more_ones = many (mark_test m.Comma) (mark m.Comma ▸ one)

unfoldable pub more_names : Parser (List Word)
more_names = many (mark_test m.Comma) (mark m.Comma ▸ token id_test)

abbrev pub made_instances : Option Pins × List One → PlainTail
made_instances c = plain_tail_of.Instances c.0 c.1

unfoldable pub instances : Parser PlainTail
instances = made_instances <$> (pins_inside ⊗ (more_ones ◂ mark m.Semicolon))

unfoldable pub variables : Parser PlainTail
variables = plain_tail_of.Variables <$> (more_names ◂ mark m.Semicolon)

unfoldable pub plain_tail : Parser PlainTail
plain_tail = by_told (mark_test m.LeftParen) (λ _. instances) variables

abbrev pub made_overridden : Option Pins × List One → NameTail
made_overridden c = name_tail_of.Overridden c.0 c.1

unfoldable pub overridden : Parser NameTail
overridden = made_overridden <$> (mark m.Hash ▸ (pins_inside ⊗ (listed one ◂ mark m.Semicolon)))

abbrev pub made_ranged : List Range × List Word → NameTail
made_ranged c = name_tail_of.Ranged c.0 c.1

unfoldable pub ranged : Parser NameTail
ranged = made_ranged <$> (some_of (mark_test m.LeftBracket) range ⊗ (names ◂ mark m.Semicolon))

abbrev pub made_plain : Word × PlainTail → NameTail
made_plain c = name_tail_of.Plain c.0 c.1

unfoldable pub plain : Parser NameTail
plain = made_plain <$> (token id_test ⊗ plain_tail)

abbrev pub tail_for : TailOpener → Parser NameTail
tail_for tail_by.Hash = overridden
tail_for tail_by.Bracket = ranged
tail_for tail_by.Name = plain

unfoldable pub name_tail : Parser NameTail
name_tail = by_told (sort_test tail_by_sort) tail_for refuse

abbrev pub made_inst : Word → Option (Option Pins) → List One → Inst
made_inst w params all = record { of_module = w; params = params; list = all }

abbrev pub made_named_item : Word × NameTail → Item
made_named_item (w, name_tail_of.Overridden p all) = it.Inst (made_inst w (Some p) all)
made_named_item (w, name_tail_of.Ranged ranges all) = it.Variable (ty.Named w ranges) all
made_named_item (w, name_tail_of.Plain n (plain_tail_of.Instances p all)) = it.Inst (made_inst w None (made_one (n, p) ∷ all))
made_named_item (w, name_tail_of.Plain n (plain_tail_of.Variables all)) = it.Variable (ty.Named w []) (n ∷ all)

unfoldable pub named_item : Parser Item
named_item = made_named_item <$> (token id_test ⊗ name_tail)
