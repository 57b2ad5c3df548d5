use Rattle.sv_write.proofs.Adding.{◌▷◌}
use Rattle.sv_write.proofs.forms.enumeration.Goals as goal

pub returns : goal.returns
returns c = c.key.ensures ▷ c.put.ensures ▷ c.maybe.ensures ▷ c.maybe-2.ensures ▷ c.labels.ensures
