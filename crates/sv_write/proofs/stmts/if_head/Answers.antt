use Rattle.sv_write.proofs.Adding.{◌▷◌}
use Rattle.sv_write.proofs.stmts.if_head.Goals as goal

pub returns : goal.returns
returns c = c.maybe.ensures ▷ c.key.ensures ▷ c.in_parens.ensures
