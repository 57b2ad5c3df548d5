use Rattle.sv_write.proofs.Adding.{◌▷◌}
use Rattle.sv_write.proofs.stmts.for_word.Goals as goal

pub returns : goal.returns
returns c = c.key.ensures ▷ c.mark.ensures ▷ c.whole_word.ensures
