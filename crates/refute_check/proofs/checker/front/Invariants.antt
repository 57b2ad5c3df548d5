use Rattle.std.proofs.Common.{◌≡◌, map}
use Rattle.cnf.specs.Formula.{formula_of}
use Rattle.refute_check.specs.Accepted.{AllDerived}
use Rattle.refute_check.proofs.checker.front.Given as goal

-- the steps so far follow
abbrev pub invariant-loop-k : goal.invariant-loop-k
invariant-loop-k l = record {
  clear : l.marks ≡ l.fn.marks;
  derived : AllDerived (formula_of l.vars (map (λ v. v.items) l.clauses)) l.steps l.k;
}
