use Rattle.std.proofs.Common.{refl}
use Rattle.sv_write.specs.Stmts.{write_event_mark}
use Rattle.sv_write.proofs.Adding.{made}
use Rattle.sv_write.proofs.stmts.event_mark.Goals as goal

pub returns-in-Or : goal.returns-in-Or
unfolding write_event_mark
returns-in-Or c = made write_event_mark c.in-Or.is (λ l. refl) c.key.ensures

pub returns-in-Comma : goal.returns-in-Comma
unfolding write_event_mark
returns-in-Comma c = made write_event_mark c.in-Comma.is (λ l. refl) c.mark.ensures
