use Rattle.driver_resolve.specs.Drivers.{widths_of}
use Rattle.event_sim.specs.Sims.{IsValuation}
use Rattle.event_rows.specs.Settled.{IsMadeFor}
use Rattle.event_rows.proofs.settled.run.Given as goal

abbrev pub invariant-lines : goal.invariant-lines
invariant-lines l = record {
  made : IsMadeFor l.flat l.settler;
  prev : IsValuation (widths_of l.flat.wires) l.prev.values;
}
