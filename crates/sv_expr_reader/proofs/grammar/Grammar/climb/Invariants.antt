use Rattle.std.proofs.Common.{◌≡◌, ◌-◌}
use Rattle.sv_expr_reader.specs.Climbing.{IsFirstHeight, turns}
use Rattle.sv_expr_reader.specs.Reading.{climb, expr}
use Rattle.sv_expr_reader.proofs.grammar.Grammar.climb.Given as goal

abbrev pub invariant-loop-turn : goal.invariant-loop-turn
invariant-loop-turn g l = record {
  climbs : climb l.self.depth (expr l.self.depth) l.least l.from (turns l.from) l.fn.left l.fn.tokens ≡ climb l.self.depth (expr l.self.depth) l.least l.from (l._turn-end - l._turn) l.left l.tokens;
  first : IsFirstHeight l.first l.left;
}
