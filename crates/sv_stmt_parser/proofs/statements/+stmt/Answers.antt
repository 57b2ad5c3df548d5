use Rattle.std.proofs.Common.{◌≡◌, ap, sym, ◌∙◌, Err, arith}
use Rattle.sv_stmt_parser.specs.Stmts.{stmt}
use Rattle.sv_expr_reader.proofs.Turns.{deeper}
use Rattle.sv_stmt_parser.proofs.statements.+stmt.Goals as goal

pub returns : goal.returns
unfolding stmt
returns t c = rw (deeper (λ n. stmt n c.args.tokens.now) c.args.depth (omega arith)) c.level.ensures

pub returns-then-depth-eq0 : goal.returns-then-depth-eq0
unfolding stmt
returns-then-depth-eq0 t c = let none : c.args.depth ≡ 0 = omega arith in λ _. ap (λ n. stmt n c.args.tokens.now) none ∙ ap Err (sym c.too_deep.ensures)
