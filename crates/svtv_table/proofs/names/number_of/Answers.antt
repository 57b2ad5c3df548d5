use Rattle.std.proofs.Common.{◌∙◌, ap}
use Rattle.svtv_table.specs.Indexing.{listed}
use Rattle.svtv_table.specs.Names.{number_of}
use Rattle.svtv_table.proofs.Listed.{at_within, is_at}
use Rattle.svtv_table.proofs.names.number_of.Goals as goal

pub returns-clause-is : goal.returns-clause-is
returns-clause-is c = is_at c.args.variables.now c.bytes.result.now c.get.result c.get.ensures ∙ ap (number_of (listed c.args.variables.now)) c.bytes.ensures

pub returns-clause-within : goal.returns-clause-within
returns-clause-within c = at_within c.args.variables.now c.bytes.result.now c.get.result (is_at c.args.variables.now c.bytes.result.now c.get.result c.get.ensures)
