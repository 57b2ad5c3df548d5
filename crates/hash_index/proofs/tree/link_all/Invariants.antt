use Rattle.hash_index.specs.Tree.{IsLinked}
use Rattle.hash_index.proofs.tree.link_all.Given as goal

abbrev pub invariant-loop-number : goal.invariant-loop-number
invariant-loop-number l = IsLinked l.number l.hashes l.low l.high l.roots
