use Rattle.sv_write.proofs.Adding.{◌▷◌}
use Rattle.sv_write.proofs.part.behind_comma.Goals as goal

pub returns : goal.returns
returns g c = c.mark.ensures ▷ c.put.ensures
