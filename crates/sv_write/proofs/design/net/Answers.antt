use Rattle.sv_write.proofs.Adding.{◌▷◌}
use Rattle.sv_write.proofs.design.net.Goals as goal

pub returns : goal.returns
returns c = c.put.ensures ▷ c.maybe.ensures ▷ c.names_end.ensures
