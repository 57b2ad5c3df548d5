use Rattle.std.proofs.Common.{◌≡◌, ◌-◌}
use Rattle.sv_cursor.specs.declared.sort.Mark.TheVariants as m
use Rattle.sv_cursor.specs.Parsers.{many_from}
use Rattle.sv_cursor.specs.Tests.{mark_test}
use Rattle.sv_expr_reader.specs.Reading.{after_comma, more, expr}
use Rattle.sv_cursor.proofs.Turns.{after}
use Rattle.sv_expr_reader.proofs.grammar.Grammar.more.Given as goal

abbrev pub invariant-loop-turn : goal.invariant-loop-turn
invariant-loop-turn g l =
    more l.self.depth (expr l.self.depth) l.fn.tokens ≡ after l.found (many_from (mark_test m.Comma) (after_comma l.self.depth (expr l.self.depth)) (l._turn-end - l._turn) l.tokens)
