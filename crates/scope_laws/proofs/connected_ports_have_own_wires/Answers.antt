use Rattle.scope_laws.proofs.Connecting.{wires_are_distinct}
use Rattle.scope_laws.proofs.connected_ports_have_own_wires.Goals as goal

pub returns : goal.returns
returns c = wires_are_distinct
