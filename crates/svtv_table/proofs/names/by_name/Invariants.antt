use Rattle.std.proofs.Common.{map, take}
use Rattle.svtv_table.specs.Indexing.{Indexes}
use Rattle.svtv_table.specs.Names.{name_of}
use Rattle.svtv_table.proofs.names.by_name.Given as goal

abbrev pub invariant-loop-at : goal.invariant-loop-at
invariant-loop-at l = Indexes l.index (map name_of (take l.at l.vars))
