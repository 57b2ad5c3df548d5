use Rattle.sv_write.specs.Design.{write_one}
use Rattle.sv_write.proofs.Adding.{◌▷◌}
use Rattle.sv_write.proofs.design.OnePart.put.Goals as goal

pub returns : goal.returns
unfolding write_one
returns c = c.name.ensures ▷ c.mark.ensures ▷ c.maybe.ensures ▷ c.mark-2.ensures
