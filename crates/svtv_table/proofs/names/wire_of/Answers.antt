use Rattle.svtv_table.specs.Names.{path_of}
use Rattle.name_index.proofs.Indexes.{number_within}
use Rattle.svtv_table.proofs.names.wire_of.Goals as goal

pub returns-clause-within : goal.returns-clause-within
returns-clause-within c = number_within path_of c.args.wires.now.index c.args.wires.now.list.now c.bytes.result.now c.number.result c.args.wires.now.indexed c.number.ensures
