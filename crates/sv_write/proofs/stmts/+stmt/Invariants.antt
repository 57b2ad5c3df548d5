use Rattle.sv_write.specs.Stmts.{write_arm, write_stmt}
use Rattle.sv_write.specs.Writing.{each}
use Rattle.sv_write.proofs.Loops.{Left}
use Rattle.sv_write.proofs.stmts.+stmt.Given as goal

abbrev pub invariant-stmts-parts : goal.invariant-stmts-parts
invariant-stmts-parts l = Left write_stmt l.all l.part-index (each write_stmt l.all) l.fn.out l.out

abbrev pub invariant-arms-parts : goal.invariant-arms-parts
invariant-arms-parts l = Left write_arm l.all l.part-index (each write_arm l.all) l.fn.out l.out
