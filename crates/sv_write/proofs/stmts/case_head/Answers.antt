use Rattle.sv_write.proofs.Adding.{◌▷◌}
use Rattle.sv_write.proofs.stmts.case_head.Goals as goal

pub returns : goal.returns
returns c = c.maybe.ensures ▷ c.case_word.ensures ▷ c.in_parens.ensures
