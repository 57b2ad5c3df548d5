use Rattle.sv_write.specs.Exprs.{write_select}
use Rattle.sv_write.specs.Stmts.{write_lvalue}
use Rattle.sv_write.specs.Writing.{commas, each}
use Rattle.sv_write.proofs.Adding.{◌▷◌, made, under}
use Rattle.sv_write.proofs.StmtsMade.{made_target, made_targets}
use Rattle.sv_write.proofs.Loops.{left_next, left_last, commas_first}
use Rattle.sv_write.proofs.stmts.+target.Goals as goal

pub lvalues-parts-init : goal.lvalues-parts-init
lvalues-parts-init t c = commas_first write_lvalue c.args.all.now c.first-item.result c.in-len1-up.len_at_least c.first-item.is c.lvalue.ensures

pub lvalues-parts-preserved : goal.lvalues-parts-preserved
lvalues-parts-preserved t c = left_next c.parts-test.true c.part-item.is c.parts.invariant (c.mark.ensures ▷ c.lvalue-in-parts.ensures)

pub lvalues-returns-after-parts : goal.lvalues-returns-after-parts
lvalues-returns-after-parts t c = left_last c.parts-test.false c.parts.invariant

pub lvalue-returns-in-Name : goal.lvalue-returns-in-Name
lvalue-returns-in-Name t c = made write_lvalue c.in-Name.is (made_target _ _) (c.name.ensures ▷ under (each write_select) c.as_slice.ensures c.selects.ensures)

pub lvalue-returns-in-Concat : goal.lvalue-returns-in-Concat
lvalue-returns-in-Concat t c = made write_lvalue c.in-Concat.is (made_targets _ _) (c.mark.ensures ▷ under (commas write_lvalue) c.as_slice-in-Concat.ensures c.lvalues.ensures ▷ c.mark-in-Concat.ensures)
