use Rattle.sv_write.proofs.Adding.{◌▷◌}
use Rattle.sv_write.proofs.design.variable.Goals as goal

pub returns : goal.returns
returns c = c.form.ensures ▷ c.names_end.ensures
