use Rattle.scope_laws.proofs.Seen.{seen_are_wires, ports_are_wires}
use Rattle.scope_laws.proofs.Closing.{ports_stand_above}
use Rattle.scope_laws.proofs.names_are_wires.Goals as goal

pub returns-clause-seen : goal.returns-clause-seen
returns-clause-seen c = seen_are_wires

pub returns-clause-ports : goal.returns-clause-ports
returns-clause-ports c = ports_are_wires

pub returns-clause-above : goal.returns-clause-above
returns-clause-above c = ports_stand_above
