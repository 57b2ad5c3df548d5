use Rattle.sv_write.specs.Design.{write_inst, write_one}
use Rattle.sv_write.specs.Writing.{commas}
use Rattle.sv_write.proofs.Adding.{◌▷◌, under}
use Rattle.sv_write.proofs.design.inst.Goals as goal

pub returns : goal.returns
unfolding write_inst
returns c = c.name.ensures ▷ c.overridden.ensures ▷ under (commas write_one) c.as_slice.ensures c.commas.ensures ▷ c.mark.ensures
