use Rattle.event_rows.specs.Settled.{IsMadeFor}
use Rattle.event_rows.proofs.settled.step_all.Given as goal

abbrev pub invariant-turns : goal.invariant-turns
invariant-turns l = IsMadeFor l.flat l.settler
