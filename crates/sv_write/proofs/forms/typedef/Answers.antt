use Rattle.sv_write.specs.Forms.{write_typedef}
use Rattle.sv_write.proofs.Adding.{◌▷◌}
use Rattle.sv_write.proofs.forms.typedef.Goals as goal

pub returns : goal.returns
unfolding write_typedef
returns c = c.key.ensures ▷ c.form.ensures ▷ c.name.ensures ▷ c.mark.ensures
