use Rattle.svtv_induct.specs.Showing.{HaveValues}
use Rattle.svtv_induct.proofs.shown.state.Given as goal

abbrev pub invariant-wires : goal.invariant-wires
invariant-wires l = HaveValues l.own l.firsts l.values l.at
