use Rattle.std.proofs.Common.{◌≡◌, ◌<◌, length}
use Rattle.lhs_alias.specs.Roots.{root_of}
use Rattle.lhs_alias.proofs.Climbing.{steps}
use Rattle.lhs_alias.proofs.forest.root.Given as goal

abbrev pub invariant-loop-at : goal.invariant-loop-at
invariant-loop-at l = record {
  within : l.at < length l.links;
  same : root_of l.links l.at ≡ root_of l.links l.fn.at;
}

abbrev pub decreases-loop-at : goal.decreases-loop-at
decreases-loop-at l = steps (length l.links) l.links l.at
