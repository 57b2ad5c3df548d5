use Rattle.std.proofs.Common.{◌↔◌, length}
use Rattle.lhs_alias.specs.Segs.{lhs_bits}
use Rattle.lhs_alias.specs.Pairs.{FallTo}
use Rattle.lhs_alias.proofs.lhs.all_fall.Given as goal

abbrev pub invariant-loop-child : goal.invariant-loop-child
invariant-loop-child l = FallTo l.children l.parents ↔ FallTo (lhs_bits l.fn.child) (lhs_bits l.fn.parent)

abbrev pub decreases-loop-child : goal.decreases-loop-child
decreases-loop-child l = length l.children
