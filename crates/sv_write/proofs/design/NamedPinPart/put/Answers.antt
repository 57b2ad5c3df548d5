use Rattle.sv_write.specs.Design.{write_named}
use Rattle.sv_write.proofs.Adding.{◌▷◌}
use Rattle.sv_write.proofs.design.NamedPinPart.put.Goals as goal

pub returns : goal.returns
unfolding write_named
returns c = c.mark.ensures ▷ c.name.ensures ▷ c.pin.ensures
