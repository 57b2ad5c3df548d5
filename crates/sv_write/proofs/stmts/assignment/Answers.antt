use Rattle.sv_write.specs.Writing.{mark}
use Rattle.sv_write.proofs.Adding.{◌▷◌, under}
use Rattle.sv_write.proofs.stmts.assignment.Goals as goal

pub returns : goal.returns
returns c = c.lvalue.ensures ▷ under mark c.assign_text.ensures c.mark.ensures ▷ c.expr_and_mark.ensures
