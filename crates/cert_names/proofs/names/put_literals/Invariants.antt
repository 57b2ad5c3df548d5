use Rattle.std.proofs.Common.{◌≡◌, ◌++◌, length}
use Rattle.cert_names.specs.Names.{names_in}
use Rattle.cert_names.proofs.names.put_literals.Given as goal

abbrev pub decreases-loop-d : goal.decreases-loop-d
decreases-loop-d l = length l.literals

abbrev pub invariant-loop-d : goal.invariant-loop-d
invariant-loop-d l = l.names.items ++ names_in l.literals ≡ l.fn.names.items ++ names_in l.fn.literals
