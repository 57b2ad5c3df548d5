use Rattle.std.proofs.Common.{◌≡◌, ◌-◌}
use Rattle.sv_cursor.specs.Parsers.{many_from}
use Rattle.sv_cursor.proofs.Turns.{after}
use Rattle.sv_cursor.specs.declared.sort.Mark.TheVariants as m
use Rattle.sv_cursor.specs.Tests.{mark_test}
use Rattle.sv_type_parser.specs.Lists.{more, behind_comma}
use Rattle.sv_type_parser.proofs.parts.more_parts.Given as goal

abbrev pub invariant-loop-turn : goal.invariant-loop-turn
invariant-loop-turn g l =
    more g.T.Part.parser l.fn.tokens ≡ after l.found (many_from (mark_test m.Comma) (behind_comma g.T.Part.parser) (l._turn-end - l._turn) l.tokens)
