use Rattle.sv_write.proofs.Adding.{◌▷◌}
use Rattle.sv_write.proofs.stmts.turns.Goals as goal

pub returns : goal.returns
returns c = c.name.ensures ▷ c.mark.ensures ▷ c.expr_and_mark.ensures ▷ c.expr_and_mark-2.ensures ▷ c.step.ensures ▷ c.mark-2.ensures
