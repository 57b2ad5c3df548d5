use Rattle.std.proofs.Common.{◌≡◌, map}
use Rattle.cnf.specs.Gates.{clauses_to}
use Rattle.cnf.proofs.gates.clause_list.Given as goal

abbrev pub invariant-loop-k : goal.invariant-loop-k
invariant-loop-k l = map (λ v. v.items) l.clauses.items ≡ clauses_to l.aig l.k
