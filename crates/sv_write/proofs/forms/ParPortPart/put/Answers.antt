use Rattle.sv_write.specs.Forms.{write_par_port}
use Rattle.sv_write.proofs.Adding.{◌▷◌}
use Rattle.sv_write.proofs.forms.ParPortPart.put.Goals as goal

pub returns : goal.returns
unfolding write_par_port
returns c = c.maybe.ensures ▷ c.maybe-2.ensures ▷ c.name.ensures ▷ c.given.ensures
