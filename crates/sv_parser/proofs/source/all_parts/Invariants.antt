use Rattle.std.proofs.Common.{◌≡◌, ◌-◌}
use Rattle.sv_cursor.specs.Parsers.{many_from}
use Rattle.sv_cursor.proofs.Turns.{after}
use Rattle.sv_word_parser.specs.Combined.{word_test}
use Rattle.sv_word_parser.specs.Words.{part_by_word}
use Rattle.sv_parser.specs.Source.{part}
use Rattle.sv_type_parser.specs.Lists.{while_told}
use Rattle.sv_parser.proofs.source.all_parts.Given as goal

abbrev pub invariant-loop-turn : goal.invariant-loop-turn
invariant-loop-turn l =
    while_told (word_test part_by_word) part l.fn.tokens ≡ after l.found (many_from (word_test part_by_word) part (l._turn-end - l._turn) l.tokens)
