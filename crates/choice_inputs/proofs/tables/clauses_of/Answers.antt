use Rattle.std.proofs.lemmas.Result.{IfOk-from_err}
use Rattle.std.proofs.Common.{◌∙◌, ap, map, Vec, Global}
use Rattle.std.proofs.lemmas.List.{map-append}
use Rattle.cnf.specs.declared.Dim.{Dim}
use Rattle.choice_inputs.proofs.Resolving.{clauses_next}
use Rattle.choice_inputs.proofs.tables.clauses_of.Goals as goal

pub loop-number-preserved : goal.loop-number-preserved
loop-number-preserved c =
    clauses_next c.args.bits c.loop-number.number _ _ _ c.loop-number.invariant c.in_ok-clause_of.ensures
    (ap (λ xs. map (λ (v : Vec Dim Global). v.items) xs) c.in_ok-push.ensures.items ∙ map-append (λ (v : Vec Dim Global). v.items) _ _)

pub returns-in_err-clause_of : goal.returns-in_err-clause_of
returns-in_err-clause_of c = IfOk-from_err _ _ c.from_residual.ensures.0

pub returns-in_err-push : goal.returns-in_err-push
returns-in_err-push c = IfOk-from_err _ _ c.from_residual-in_err-push.ensures.0
