-- What keywords and marks tell of connections.
use Rattle.std.specs.Prelude.{Option, Some, None}
use Rattle.sv_cursor.specs.declared.sort.Mark.{Mark as MarkName}
use Rattle.sv_cursor.specs.declared.sort.Mark.TheVariants as m
use Rattle.sv_cursor.specs.declared.sort.Sort.{Sort}
use Rattle.sv_cursor.specs.declared.sort.Sort.TheVariants as s
use Rattle.sv_expr_words.specs.Signs.{opener}
use Rattle.sv_instance_parser.specs.declared.openers.PinsOpener.{PinsOpener}
use Rattle.sv_instance_parser.specs.declared.openers.PinsOpener.TheVariants as pins_by

abbrev pub ordered_if : {A : Type 0} → Option A → Option PinsOpener
ordered_if None = None
ordered_if (Some x) = Some pins_by.Ordered

abbrev pub pins_by_mark : MarkName → Option PinsOpener
pins_by_mark m.Dot = Some pins_by.Named
pins_by_mark name = ordered_if (opener (s.Mark name))

abbrev pub pins_by_sort : Sort → Option PinsOpener
pins_by_sort (s.Mark name) = pins_by_mark name
pins_by_sort x = ordered_if (opener x)
