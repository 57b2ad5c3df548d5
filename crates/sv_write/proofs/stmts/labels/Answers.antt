use Rattle.sv_write.proofs.Adding.{◌▷◌}
use Rattle.sv_write.proofs.stmts.labels.Goals as goal

pub returns : goal.returns
returns c = c.exprs.ensures ▷ c.mark.ensures
