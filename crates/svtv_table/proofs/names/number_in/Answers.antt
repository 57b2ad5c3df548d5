use Rattle.svtv_table.specs.Names.{name_of}
use Rattle.name_index.proofs.Indexes.{number_within}
use Rattle.svtv_table.proofs.names.number_in.Goals as goal

pub returns-clause-within : goal.returns-clause-within
returns-clause-within c = number_within name_of c.args.index.now c.args.vars.now c.args.name.now c.number.result c.requires c.number.ensures
