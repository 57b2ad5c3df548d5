use Rattle.sv_expr_reader.proofs.operators.+expr.Given as goal

abbrev pub decreases-expr : goal.decreases-expr
decreases-expr l = l.depth
