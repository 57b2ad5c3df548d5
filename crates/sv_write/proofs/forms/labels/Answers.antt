use Rattle.sv_write.proofs.Adding.{◌▷◌}
use Rattle.sv_write.proofs.forms.labels.Goals as goal

pub returns : goal.returns
returns c = c.mark.ensures ▷ c.commas.ensures ▷ c.mark-2.ensures
