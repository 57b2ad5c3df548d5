use Rattle.std.proofs.Common.{◌<◌, take}
use Rattle.std.specs.List.{All}
use Rattle.clause_rows.proofs.solving.all_in_range.Given as goal

abbrev pub invariant-loop-clause : goal.invariant-loop-clause
invariant-loop-clause l = All (λ v. All (λ d. d.var < l.vars) v.items) (take l.clause-index l.clauses)
