use Rattle.sv_write.specs.Forms.{write_port}
use Rattle.sv_write.proofs.Adding.{◌▷◌}
use Rattle.sv_write.proofs.forms.PortPart.put.Goals as goal

pub returns : goal.returns
unfolding write_port
returns c = c.maybe.ensures ▷ c.maybe-2.ensures ▷ c.maybe-3.ensures ▷ c.name.ensures
