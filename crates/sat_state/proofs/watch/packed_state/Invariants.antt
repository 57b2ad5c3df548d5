use Rattle.std.proofs.Common.{take}
use Rattle.cnf.specs.Clauses.{valuation}
use Rattle.cnf.specs.State.{Looked}
use Rattle.sat_state.proofs.watch.packed_state.Given as goal

-- of the literals so far, all are false, or one is open and the others false
abbrev pub invariant-loop-d : goal.invariant-loop-d
invariant-loop-d l = Looked (valuation l.values) (take l.d-index l.clause) l.found
