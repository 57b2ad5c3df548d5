use Rattle.sv_write.specs.Design.{write_pair}
use Rattle.sv_write.proofs.Adding.{◌▷◌}
use Rattle.sv_write.proofs.design.AssignPairPart.put.Goals as goal

pub returns : goal.returns
unfolding write_pair
returns c = c.lvalue.ensures ▷ c.given.ensures
