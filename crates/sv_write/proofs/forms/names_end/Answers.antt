use Rattle.sv_write.proofs.Adding.{◌▷◌}
use Rattle.sv_write.proofs.forms.names_end.Goals as goal

pub returns : goal.returns
returns c = c.commas.ensures ▷ c.mark.ensures
