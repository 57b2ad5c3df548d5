use Rattle.std.proofs.Common.{◌≤◌, length}
use Rattle.hash_index.specs.Tree.{IsLinked}
use Rattle.hash_index.proofs.tree.unlink_from.Given as goal

abbrev pub invariant-loop-number : goal.invariant-loop-number
invariant-loop-number l = record {
  low : l.len ≤ l.number;
  within : l.number ≤ length l.hashes;
  linked : IsLinked l.number l.hashes l.low l.high l.roots;
}

abbrev pub decreases-loop-number : goal.decreases-loop-number
decreases-loop-number l = l.number
