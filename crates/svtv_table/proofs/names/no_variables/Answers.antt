use Rattle.std.proofs.Common.{ap, map}
use Rattle.svtv_table.specs.Holding.{declaration}
use Rattle.svtv_table.specs.Indexing.{listed}
use Rattle.svtv_table.proofs.Listed.{numbered_none}
use Rattle.svtv_table.proofs.names.no_variables.Goals as goal

pub invariant_of-result : goal.invariant_of-result
invariant_of-result c = record { numbered = numbered_none c.new-2.result c.new.result.items c.new-2.ensures c.new.ensures.items }

pub returns : goal.returns
unfolding listed
returns c = ap (map declaration) c.new.ensures.items
