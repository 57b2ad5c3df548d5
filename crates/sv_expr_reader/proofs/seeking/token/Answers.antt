use Rattle.std.proofs.Common.{sym, arith}
use Rattle.sv_expr_reader.proofs.Sought.{one_found, one_here, passed_as}
use Rattle.sv_expr_reader.proofs.seeking.token.Goals as goal

pub returns-then-at : goal.returns-then-at
returns-then-at c = sym (one_found c.args.depth c.args.at c.if-at.true)

pub returns-then-depth-eq0 : goal.returns-then-depth-eq0
returns-then-depth-eq0 c = sym (one_here c.args.depth c.args.at c.if-at.false (omega (arith, c.if-depth-eq0.true)))

pub returns-else-depth-eq0 : goal.returns-else-depth-eq0
returns-else-depth-eq0 c = passed_as c.args.depth c.args.at c.saturating_add.result c.if-at.false (omega (arith, c.if-depth-eq0.false)) (omega (arith, c.saturating_add.ensures))
