use Rattle.std.proofs.Common.{◌∙◌, ◌∷◌, ◌++◌, [], None, ap, map, refl}
use Rattle.std.proofs.lemmas.List.{take_all}
use Rattle.std.proofs.lemmas.Result.{IfOk-from_err}
use Rattle.svtv_table.specs.Valuing.{given_value}
use Rattle.svtv_table.proofs.Fronts.{front_same}
use Rattle.svtv_table.proofs.values.no_values.Goals as goal

pub loop-var-init : goal.loop-var-init
loop-var-init c = c.new-values.ensures.items

pub loop-var-preserved : goal.loop-var-preserved
loop-var-preserved c =
    c.in_ok-push.ensures.items ∙ ap (λ vs. vs ++ None ∷ []) c.loop-var.invariant ∙ front_same (given_value []) c.args.vars.now c.loop-var._var-index None c.loop-var-test.true (λ x. refl)

pub returns-in_err-push : goal.returns-in_err-push
returns-in_err-push c = IfOk-from_err _ _ c.from_residual.ensures.0

pub returns : goal.returns
returns c = c.loop-var.invariant ∙ ap (map (given_value [])) (take_all c.loop-var._var-index c.args.vars.now c.loop-var-test.false)
