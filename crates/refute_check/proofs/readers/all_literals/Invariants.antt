use Rattle.std.proofs.Common.{◌≡◌, ◌++◌, length}
use Rattle.refute_check.proofs.readers.all_literals.Given as goal

abbrev pub decreases-loop-d : goal.decreases-loop-d
decreases-loop-d l = length l.literals

abbrev pub invariant-loop-d : goal.invariant-loop-d
invariant-loop-d l = l.all.items ++ l.literals ≡ l.fn.literals
