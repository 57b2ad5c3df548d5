use Rattle.std.proofs.Common.{length}
use Rattle.cnf.specs.Clauses.{valuation}
use Rattle.cnf.specs.State.{Looked}
use Rattle.refute_check.proofs.Reading.{Walk}
use Rattle.refute_check.proofs.marks.state_in.Given as goal

abbrev pub decreases-loop-d : goal.decreases-loop-d
decreases-loop-d l = length l.literals

-- of the literals so far, all are false, or one is open and the others false
abbrev pub invariant-loop-d : goal.invariant-loop-d
invariant-loop-d l = Walk (λ front. Looked (valuation l.values) front l.found) l.literals l.fn.literals
