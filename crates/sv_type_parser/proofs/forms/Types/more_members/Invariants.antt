use Rattle.std.proofs.Common.{◌≡◌, ◌-◌}
use Rattle.sv_cursor.specs.Parsers.{many_from}
use Rattle.sv_cursor.proofs.Turns.{after}
use Rattle.sv_word_parser.specs.Combined.{sort_test}
use Rattle.sv_word_parser.specs.Words.{type_by_sort}
use Rattle.sv_type_parser.specs.Forms.{form, member}
use Rattle.sv_type_parser.specs.Lists.{while_told}
use Rattle.sv_type_parser.proofs.forms.Types.more_members.Given as goal

abbrev pub invariant-loop-turn : goal.invariant-loop-turn
invariant-loop-turn g l =
    while_told (sort_test type_by_sort) (member (form l.self.depth)) l.fn.tokens ≡ after l.found (many_from (sort_test type_by_sort) (member (form l.self.depth)) (l._turn-end - l._turn) l.tokens)
