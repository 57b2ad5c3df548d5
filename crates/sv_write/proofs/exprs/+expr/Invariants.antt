use Rattle.sv_write.specs.Exprs.{write_expr, write_select}
use Rattle.sv_write.specs.Writing.{behind_comma, commas, each}
use Rattle.sv_write.proofs.Loops.{Left}
use Rattle.sv_write.proofs.exprs.+expr.Given as goal

abbrev pub invariant-exprs-parts : goal.invariant-exprs-parts
invariant-exprs-parts l = Left (behind_comma write_expr) l.more l.part-index (commas write_expr l.all) l.fn.out l.out

abbrev pub invariant-selects-parts : goal.invariant-selects-parts
invariant-selects-parts l = Left write_select l.all l.part-index (each write_select l.all) l.fn.out l.out
