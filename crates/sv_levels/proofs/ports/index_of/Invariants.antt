use Rattle.std.proofs.Common.{map, take}
use Rattle.name_index.specs.Indexing.{Indexes}
use Rattle.sv_levels.specs.Ports.{port_name}
use Rattle.sv_levels.proofs.ports.index_of.Given as goal

abbrev pub invariant-ports : goal.invariant-ports
invariant-ports l = Indexes l.index (map port_name (take l.number l.ports))
