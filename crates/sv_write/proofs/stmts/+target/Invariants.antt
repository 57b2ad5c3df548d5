use Rattle.sv_write.specs.Stmts.{write_lvalue}
use Rattle.sv_write.specs.Writing.{behind_comma, commas}
use Rattle.sv_write.proofs.Loops.{Left}
use Rattle.sv_write.proofs.stmts.+target.Given as goal

abbrev pub invariant-lvalues-parts : goal.invariant-lvalues-parts
invariant-lvalues-parts l = Left (behind_comma write_lvalue) l.more l.part-index (commas write_lvalue l.all) l.fn.out l.out
