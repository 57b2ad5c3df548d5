use Rattle.sv_write.proofs.Adding.{◌▷◌}
use Rattle.sv_write.proofs.design.assigns.Goals as goal

pub returns : goal.returns
returns c = c.key.ensures ▷ c.commas.ensures ▷ c.mark.ensures
