use Rattle.sv_stmt_parser.proofs.statements.+stmt.Given as goal

abbrev pub decreases-stmt : goal.decreases-stmt
decreases-stmt l = l.depth
