use Rattle.std.proofs.Common.{◌≡◌, take}
use Rattle.event_nets.specs.Tables.{store_of}
use Rattle.svtv_periods.specs.Invariants.{signals_in}
use Rattle.svtv_invariants.proofs.showing.signals.Given as goal

abbrev pub invariant-samples : goal.invariant-samples
invariant-samples l = l.values ≡ signals_in (take l.sample-index l.samples) (store_of l.state)
