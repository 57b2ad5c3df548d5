use Rattle.sv_write.proofs.Adding.{◌▷◌}
use Rattle.sv_write.proofs.forms.vector.Goals as goal

pub returns : goal.returns
returns c = c.maybe.ensures ▷ c.maybe-2.ensures ▷ c.each.ensures
