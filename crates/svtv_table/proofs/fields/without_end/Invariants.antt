use Rattle.std.proofs.Common.{◌≡◌, length}
use Rattle.svtv_table.specs.Fields.{without_end}
use Rattle.svtv_table.proofs.fields.without_end.Given as goal

abbrev pub invariant-edges : goal.invariant-edges
invariant-edges l = without_end l.rest ≡ without_end l.fn.field

abbrev pub decreases-edges : goal.decreases-edges
decreases-edges l = length l.rest
