use Rattle.std.proofs.Common.{◌≡◌, map, take}
use Rattle.sat_state.proofs.store.Store.from_clauses.Given as goal

abbrev pub invariant-loop-clause : goal.invariant-loop-clause
invariant-loop-clause l = l.store ≡ map (λ v. v.items) (take l.clause-index l.clauses)
