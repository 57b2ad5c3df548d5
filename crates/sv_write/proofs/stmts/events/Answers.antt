use Rattle.sv_write.specs.Stmts.{write_events, write_next_event}
use Rattle.sv_write.specs.Writing.{each}
use Rattle.sv_write.proofs.Adding.{◌▷◌, under}
use Rattle.sv_write.proofs.stmts.events.Goals as goal

pub returns : goal.returns
unfolding write_events
returns c = c.mark.ensures ▷ c.mark-2.ensures ▷ c.event.ensures ▷ under (each write_next_event) c.as_slice.ensures c.each.ensures ▷ c.mark-3.ensures
