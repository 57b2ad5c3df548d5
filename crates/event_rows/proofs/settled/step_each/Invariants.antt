use Rattle.std.proofs.Common.{◌≡◌}
use Rattle.event_rows.specs.Settled.{IsMadeFor}
use Rattle.event_rows.proofs.settled.step_each.Given as goal

abbrev pub invariant-nets : goal.invariant-nets
invariant-nets l = record {
  made : IsMadeFor l.flat l.settler;
  over : l.settler.over ≡ l.fn.settler.over;
}
