use Rattle.std.proofs.Common.{◌≡◌, ◌-◌}
use Rattle.sv_cursor.specs.Parsers.{many_from}
use Rattle.sv_cursor.proofs.Turns.{after}
use Rattle.sv_type_parser.specs.Lists.{while_told}
use Rattle.sv_stmt_parser.proofs.within.parts.Given as goal

abbrev pub invariant-loop-turn : goal.invariant-loop-turn
invariant-loop-turn g l =
    while_told g.R.Nested.test (g.R.Nested.parser l.rules) l.fn.tokens ≡ after l.found (many_from g.R.Nested.test (g.R.Nested.parser l.rules) (l._turn-end - l._turn) l.tokens)
