use Rattle.sv_write.specs.Forms.{write_param_item}
use Rattle.sv_write.proofs.Adding.{◌▷◌}
use Rattle.sv_write.proofs.forms.ParamItemPart.put.Goals as goal

pub returns : goal.returns
unfolding write_param_item
returns c = c.name.ensures ▷ c.given.ensures
