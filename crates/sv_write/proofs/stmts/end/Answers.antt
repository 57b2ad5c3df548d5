use Rattle.sv_write.proofs.Adding.{◌▷◌}
use Rattle.sv_write.proofs.stmts.end.Goals as goal

pub returns : goal.returns
returns c = c.key.ensures ▷ c.label.ensures
