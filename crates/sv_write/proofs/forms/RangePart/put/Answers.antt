use Rattle.sv_write.specs.Forms.{write_range}
use Rattle.sv_write.proofs.Adding.{◌▷◌}
use Rattle.sv_write.proofs.forms.RangePart.put.Goals as goal

pub returns : goal.returns
unfolding write_range
returns c = c.mark.ensures ▷ c.expr_and_mark.ensures ▷ c.expr_and_mark-2.ensures
