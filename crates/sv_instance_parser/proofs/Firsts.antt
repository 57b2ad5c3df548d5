-- What is told of the first token, by its sort.
use Rattle.std.proofs.Common.{◌≡◌, List, [], ◌∷◌, Some, None, refl, ap}
use Rattle.sv_outside.specs.declared.refusal.Place.{Place}
use Rattle.sv_outside.specs.declared.text.Token.{Token}
use Rattle.sv_cursor.specs.declared.sort.Mark.{Mark as MarkName}
use Rattle.sv_cursor.specs.declared.sort.Mark.TheVariants as m
use Rattle.sv_cursor.specs.declared.sort.Sort.{Sort}
use Rattle.sv_cursor.specs.declared.sort.Sort.TheVariants as s
use Rattle.sv_cursor.specs.Sorts.{sort}
use Rattle.sv_cursor.specs.Parsers.{told}
use Rattle.sv_cursor.specs.Tests.{if_so, is_mark, same_mark, mark_test}
use Rattle.sv_cursor.proofs.Tested.{mark_told, mark_here}
use Rattle.sv_expr_words.specs.Signs.{opener, opener_test}
use Rattle.sv_instance_parser.specs.declared.openers.PinsOpener.TheVariants as pins_by
use Rattle.sv_word_parser.specs.Combined.{sort_test}
use Rattle.sv_instance_parser.specs.Pins.{ordered_if, pins_by_mark, pins_by_sort}

-- ---- connections

pub named_pins_next : (i : List Token) (p : Place) → told (mark_test m.Dot) i ≡ Some p → told (sort_test pins_by_sort) i ≡ Some pins_by.Named
unfolding sort_test
named_pins_next [] p e = absurd (cc)
named_pins_next (a ∷ i) p e = let g = mark_told m.Dot a p e in ap pins_by_sort (mark_here a m.Dot g.0 g.1)

by_mark : (name : MarkName) (p : Place) → if_so (same_mark name m.Dot) p ≡ None → pins_by_mark name ≡ ordered_if (opener (s.Mark name))
unfolding same_mark
by_mark m.Dot p e = absurd (cc)
by_mark _ p e = refl

by_sort : (x : Sort) (p : Place) → if_so (is_mark m.Dot x) p ≡ None → pins_by_sort x ≡ ordered_if (opener x)
by_sort (s.Mark name) p e = by_mark name p e
by_sort _ p e = refl

pub ordered_pins_next : (i : List Token) → told (mark_test m.Dot) i ≡ None → told (sort_test pins_by_sort) i ≡ ordered_if (told opener_test i)
unfolding mark_test sort_test opener_test
ordered_pins_next [] e = refl
ordered_pins_next (a ∷ i) e = by_sort (sort a) a.place e
