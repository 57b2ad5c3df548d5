use Rattle.std.proofs.Common.{◌≡◌, ◌-◌}
use Rattle.sv_tree.specs.GrammarExprs.{is_range}
use Rattle.sv_cursor.specs.Parsers.{chain_from}
use Rattle.sv_expr_words.specs.Signs.{select_test}
use Rattle.sv_expr_reader.specs.Reading.{select, selects, expr}
use Rattle.sv_cursor.proofs.Turns.{after}
use Rattle.sv_expr_reader.proofs.grammar.Grammar.selects.Given as goal

abbrev pub invariant-loop-turn : goal.invariant-loop-turn
invariant-loop-turn g l =
    selects l.self.depth (expr l.self.depth) l.fn.tokens ≡ after l.found (chain_from select_test is_range (select l.self.depth (expr l.self.depth)) (l._turn-end - l._turn) l.tokens)
