use Rattle.std.proofs.Common.{◌≡◌, ◌∙◌, Bool, List, false, length, map, ap, subst, get_or, rules}
use Rattle.cnf.specs.Formula.{Formula, formula_of}
use Rattle.cnf.specs.Clauses.{Solves}
use Rattle.sat_core.proofs.answers.tried.Goals as goal

pub returns-then-all_clauses_hold : goal.returns-then-all_clauses_hold
returns-then-all_clauses_hold c =
    let count : length c.args.values.items ≡ c.cnf.inside.vars = search rules in
    let is : formula_of c.cnf.inside.vars (map (λ v. v.items) c.as_slice-then-len-cnf.result.now) ≡ c.args.cnf.now =
    ap (λ v. formula_of c.cnf.inside.vars (map (λ v. v.items) v)) c.as_slice-then-len-cnf.ensures.value ∙ c.cnf.view_is in
    let hold : Solves (λ v. get_or c.args.values.items v false) (map (λ v. v.items) c.as_slice-then-len-cnf.result.now) =
    subst (λ (l : List Bool). Solves (λ v. get_or l v false) (map (λ v. v.items) c.as_slice-then-len-cnf.result.now)) c.as_slice.ensures.value (c.all_clauses_hold.ensures c.if-all_clauses_hold.true) in
    subst (λ (f : Formula). (length c.args.values.items ≡ f.vars) × Solves (λ v. get_or c.args.values.items v false) f.clauses) is (count, hold)
