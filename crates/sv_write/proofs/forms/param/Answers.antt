use Rattle.sv_write.specs.Forms.{write_param, write_param_item}
use Rattle.sv_write.specs.Writing.{commas}
use Rattle.sv_write.proofs.Adding.{◌▷◌, under}
use Rattle.sv_write.proofs.forms.param.Goals as goal

pub returns : goal.returns
unfolding write_param
returns c = c.put.ensures ▷ c.maybe.ensures ▷ under (commas write_param_item) c.as_slice.ensures c.commas.ensures ▷ c.mark.ensures
