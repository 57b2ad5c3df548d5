use Rattle.svtv_induct.specs.Putting.{AreSignals}
use Rattle.svtv_induct.proofs.signals.signals_of.Given as goal

abbrev pub invariant-samples : goal.invariant-samples
invariant-samples l = AreSignals l.samples l.row l.nodes.items l.at
