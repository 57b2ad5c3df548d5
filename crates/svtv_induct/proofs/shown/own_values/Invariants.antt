use Rattle.svtv_induct.specs.Showing.{AreOwnValues}
use Rattle.svtv_induct.proofs.shown.own_values.Given as goal

abbrev pub invariant-wires : goal.invariant-wires
invariant-wires l = AreOwnValues l.choice l.before l.wires l.own.items l.at
