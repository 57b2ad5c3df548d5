use Rattle.sv_write.specs.Forms.{write_enum_label}
use Rattle.sv_write.proofs.Adding.{◌▷◌}
use Rattle.sv_write.proofs.forms.EnumLabelPart.put.Goals as goal

pub returns : goal.returns
unfolding write_enum_label
returns c = c.name.ensures ▷ c.maybe_given.ensures
