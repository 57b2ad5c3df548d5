use Rattle.sv_write.proofs.Adding.{◌▷◌}
use Rattle.sv_write.proofs.design.if_head.Goals as goal

pub returns : goal.returns
returns c = c.key.ensures ▷ c.in_parens.ensures
