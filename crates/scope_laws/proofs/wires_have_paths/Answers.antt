use Rattle.scope_laws.proofs.Printing.{wires_are_printed}
use Rattle.scope_laws.proofs.wires_have_paths.Goals as goal

pub returns : goal.returns
returns c = wires_are_printed
