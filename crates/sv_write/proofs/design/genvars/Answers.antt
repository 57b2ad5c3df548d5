use Rattle.sv_write.proofs.Adding.{◌▷◌}
use Rattle.sv_write.proofs.design.genvars.Goals as goal

pub returns : goal.returns
returns c = c.key.ensures ▷ c.names_end.ensures
