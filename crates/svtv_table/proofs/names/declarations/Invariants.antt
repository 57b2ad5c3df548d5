use Rattle.std.proofs.Common.{◌≡◌, ◌++◌, drop, map}
use Rattle.svtv_table.specs.Holding.{declaration}
use Rattle.svtv_table.specs.Indexing.{listed}
use Rattle.svtv_table.proofs.names.declarations.Given as goal

abbrev pub invariant-loop-variable : goal.invariant-loop-variable
invariant-loop-variable l = l.vars ++ map declaration (drop l.variable-index l.variables.list.items) ≡ listed l.variables
