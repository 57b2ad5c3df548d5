use Rattle.sv_write.specs.Forms.{write_given}
use Rattle.sv_write.proofs.Adding.{◌▷◌}
use Rattle.sv_write.proofs.forms.given.Goals as goal

pub returns : goal.returns
unfolding write_given
returns c = c.mark.ensures ▷ c.expr.ensures
