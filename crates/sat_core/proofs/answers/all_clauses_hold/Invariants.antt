use Rattle.std.proofs.Common.{take, get_or, false}
use Rattle.std.specs.List.{All}
use Rattle.cnf.specs.Clauses.{ClauseHolds}
use Rattle.sat_core.proofs.answers.all_clauses_hold.Given as goal

abbrev pub invariant-loop-clause : goal.invariant-loop-clause
invariant-loop-clause l = All (λ v. ClauseHolds (λ k. get_or l.values k false) v.items) (take l.clause-index l.clauses)
