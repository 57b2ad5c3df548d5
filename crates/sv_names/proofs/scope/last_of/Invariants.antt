use Rattle.std.proofs.Common.{◌≡◌, ℕ, ◌≤◌, length}
use Rattle.sv_names.specs.Kinds.{names_of}
use Rattle.sv_names.specs.Linked.{last_among}
use Rattle.sv_names.proofs.Latest.{left}
use Rattle.sv_names.proofs.scope.last_of.Given as goal

-- it is the last place below some bound
abbrev pub invariant-places : goal.invariant-places
invariant-places l = (bound : ℕ) × (l.before ≤ bound) × (bound ≤ length l.entries) × (l.latest ≡ last_among (names_of l.entries) l.name bound)

abbrev pub decreases-places : goal.decreases-places
decreases-places l = left l.latest
