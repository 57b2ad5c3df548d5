use Rattle.std.proofs.Common.{map, take}
use Rattle.name_index.specs.Indexing.{Indexes}
use Rattle.sv_levels.specs.Overriding.{given_name}
use Rattle.sv_levels.proofs.params.index_of.Given as goal

abbrev pub invariant-list : goal.invariant-list
invariant-list l = Indexes l.index (map given_name (take l.number l.list))
