use Rattle.sv_write.specs.Stmts.{write_event}
use Rattle.sv_write.proofs.Adding.{◌▷◌}
use Rattle.sv_write.proofs.stmts.event.Goals as goal

pub returns : goal.returns
unfolding write_event
returns c = c.edge_word.ensures ▷ c.name.ensures
