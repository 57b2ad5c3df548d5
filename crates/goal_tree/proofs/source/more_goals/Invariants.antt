use Rattle.std.proofs.Common.{◌≡◌, ◌-◌, codes}
use Rattle.sv_cursor.specs.Parsers.{many_from}
use Rattle.sv_cursor.proofs.Turns.{after}
use Rattle.goal_tree.specs.Reading.{word_test, goal as one_goal, more_goals}
use Rattle.goal_tree.proofs.source.more_goals.Given as goal

abbrev pub invariant-loop-turn : goal.invariant-loop-turn
invariant-loop-turn l =
    more_goals l.fn.tokens ≡ after l.found (many_from (word_test (codes "goal")) one_goal (l._turn-end - l._turn) l.tokens)
