use Rattle.sv_stmt_parser.proofs.lvalues.+target.Given as goal

abbrev pub decreases-target : goal.decreases-target
decreases-target l = l.depth
