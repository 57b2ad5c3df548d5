use Rattle.sv_write.specs.Stmts.{write_next_event}
use Rattle.sv_write.proofs.Adding.{◌▷◌}
use Rattle.sv_write.proofs.stmts.NextEventPart.put.Goals as goal

pub returns : goal.returns
unfolding write_next_event
returns c = c.event_mark.ensures ▷ c.event.ensures
