use Rattle.std.proofs.Common.{◌≡◌, take}
use Rattle.sv_modules.specs.Naming.{texts_of}
use Rattle.sv_hierarchy.specs.Scopes.{port_texts}
use Rattle.sv_levels.proofs.ports.port_names.Given as goal

abbrev pub invariant-ports : goal.invariant-ports
invariant-ports l = texts_of l.words.items ≡ port_texts (take l.port-index l.ports)
