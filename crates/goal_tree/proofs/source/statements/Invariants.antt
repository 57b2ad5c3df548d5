use Rattle.std.proofs.Common.{◌≡◌, ◌-◌}
use Rattle.sv_cursor.specs.Parsers.{many_from}
use Rattle.sv_cursor.proofs.Turns.{after}
use Rattle.goal_tree.specs.Reading.{word_test, statement, statements}
use Rattle.goal_tree.proofs.source.statements.Given as goal

abbrev pub invariant-loop-turn : goal.invariant-loop-turn
invariant-loop-turn l =
    statements l.word l.fn.tokens ≡ after l.found (many_from (word_test l.word) (statement l.word) (l._turn-end - l._turn) l.tokens)
