use Rattle.std.proofs.Common.{◌≡◌, ◌↔◌, length, map}
use Rattle.refute_check.specs.Accepted.{Derives, known_of}
use Rattle.cnf.specs.Clauses.{valuation}
use Rattle.refute_check.proofs.follow.derives.Given as goal

abbrev pub decreases-loop-hint : goal.decreases-loop-hint
decreases-loop-hint l = length l.hints

-- the hints that are left do what all do from the beginning
abbrev pub invariant-loop-hint : goal.invariant-loop-hint
invariant-loop-hint l =
    let db = known_of (map (λ v. v.items) l.clauses) l.steps l.k in
    record {
      rest : Derives db (valuation l.marks) l.hints ↔ Derives db (valuation l.fn.marks) l.fn.hints;
      width : length l.marks ≡ length l.fn.marks;
    }
