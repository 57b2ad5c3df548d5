use Rattle.std.proofs.Common.{◌≡◌, ap, sym, ◌∙◌, Err, arith}
use Rattle.sv_expr_reader.specs.Reading.{expr}
use Rattle.sv_expr_reader.proofs.Turns.{deeper}
use Rattle.sv_expr_reader.proofs.operators.+expr.Goals as goal

pub returns : goal.returns
unfolding expr
returns t c = rw (deeper (λ n. expr n c.args.least c.args.tokens.now) c.args.depth (omega arith)) c.level.ensures

pub returns-then-depth-eq0 : goal.returns-then-depth-eq0
unfolding expr
returns-then-depth-eq0 t c = let none : c.args.depth ≡ 0 = omega arith in λ _. ap (λ n. expr n c.args.least c.args.tokens.now) none ∙ ap Err (sym c.too_deep.ensures)
