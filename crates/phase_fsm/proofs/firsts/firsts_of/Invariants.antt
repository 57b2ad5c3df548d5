use Rattle.phase_fsm.specs.Firsts.{HaveFirsts}
use Rattle.phase_fsm.proofs.firsts.firsts_of.Given as goal

abbrev pub invariant-wires : goal.invariant-wires
invariant-wires l = HaveFirsts l.flat l.firsts l.at
