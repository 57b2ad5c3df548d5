use Rattle.std.proofs.Common.{false, length}
use Rattle.hash_index.specs.Tree.{link_at, IsAhead, left}
use Rattle.hash_index.proofs.tree.find.Given as goal

abbrev pub invariant-loop-at : goal.invariant-loop-at
invariant-loop-at g l = IsAhead l.hashes (link_at l.low l.high l.roots) (λ j. goal.F-post g l.test j false) l.hash l.rest l.at

abbrev pub decreases-loop-at : goal.decreases-loop-at
decreases-loop-at g l = left (length l.hashes) l.at
