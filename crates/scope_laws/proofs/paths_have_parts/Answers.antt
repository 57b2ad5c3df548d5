use Rattle.scope_laws.proofs.Printing.{wires_have_parts}
use Rattle.scope_laws.proofs.paths_have_parts.Goals as goal

pub returns : goal.returns
returns c = wires_have_parts
