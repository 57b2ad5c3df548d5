-- Words of the inner functions: the text of a part, and what is counted.
use Rattle.std.specs.Prelude.{Bool, decimal}
use Rattle.svtv_selftest.specs.Line.{is_failed, is_proved, is_vacuous}
use Rattle.svtv_selftest.specs.Texts.{Text, often}
use Rattle.svtv_selftest.specs.declared.line.Word.{Word}
use Rattle.svtv_selftest.specs.declared.line.Word.TheVariants as word
use Rattle.svtv_selftest.specs.declared.parts.Part.{Part}
use Rattle.svtv_selftest.specs.declared.parts.Part.TheVariants as part
use Rattle.svtv_verdicts.specs.Verdicts.{Verdict}

abbrev pub part_text : Part → Text
part_text (part.Word word) = word.now
part_text (part.Number number) = decimal number
part_text (part.Often count word) = often count word.now

-- whether this is said of a goal
abbrev pub is_word : Word → Verdict → Bool
is_word word.Proved v = is_proved v
is_word word.Vacuous v = is_vacuous v
is_word word.Failed v = is_failed v
