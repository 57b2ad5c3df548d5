use Rattle.std.proofs.Common.{◌≡◌, ◌⊎◌, take}
use Rattle.std.specs.List.{All}
use Rattle.cnf.specs.Clauses.{IsFalsified}
use Rattle.cnf.specs.Clauses.{valuation}
use Rattle.sat_state.proofs.watch.first_free.Given as goal

abbrev pub invariant-loop-i : goal.invariant-loop-i
invariant-loop-i l = All (λ e. (e ≡ l.other) ⊎ IsFalsified (valuation l.values) e) (take l.i l.clause)
