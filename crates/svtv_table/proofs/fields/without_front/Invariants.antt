use Rattle.std.proofs.Common.{◌≡◌, length}
use Rattle.svtv_table.specs.Fields.{without_front}
use Rattle.svtv_table.proofs.fields.without_front.Given as goal

abbrev pub invariant-edges : goal.invariant-edges
invariant-edges l = without_front l.rest ≡ without_front l.fn.field

abbrev pub decreases-edges : goal.decreases-edges
decreases-edges l = length l.rest
