use Rattle.sv_write.proofs.Adding.{◌▷◌}
use Rattle.sv_write.proofs.forms.packed.Goals as goal

pub returns : goal.returns
returns c = c.key.ensures ▷ c.key-2.ensures ▷ c.maybe.ensures ▷ c.mark.ensures
