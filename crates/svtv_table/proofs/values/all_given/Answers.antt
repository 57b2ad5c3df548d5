use Rattle.std.proofs.lemmas.Result.{IfOk-from_err}
use Rattle.std.proofs.Common.{◌≡◌, List, [], ◌∷◌, ◌++◌, Option, Some, map, take, get_or, ◌&&◌, refl, sym, ap, ◌∙◌}
use Rattle.std.proofs.lemmas.List.{map-append, take_all, take_more}
use Rattle.std.proofs.lemmas.List.Folds.{list_all_more}
use Rattle.std.specs.Prelude.{is_some}
use Rattle.fourvec.specs.declared.Bit.{Bit}
use Rattle.svtv_table.proofs.values.all_given.Goals as goal

pub returns-in_err-push-in-Some-clause-fine : goal.returns-in_err-push-in-Some-clause-fine
returns-in_err-push-in-Some-clause-fine c = IfOk-from_err _ _ c.from_residual.ensures.0

pub returns-in_err-push-in-Some-clause-values : goal.returns-in_err-push-in-Some-clause-values
returns-in_err-push-in-Some-clause-values c = IfOk-from_err _ _ c.from_residual.ensures.0

pub loop-value-init : goal.loop-value-init
loop-value-init c = rw c.new-given.ensures.items (record { values = refl; all = refl })

pub loop-value-preserved : goal.loop-value-preserved
loop-value-preserved c =
    let values = c.args.values.now in
    let i = c.loop-value.value-index in
    let value = c.in-Some.value in
    let item = c.value-item.result in
    let is : get_or values i item ≡ Some value = sym c.value-item.is ∙ c.in-Some.is in
    record {
      values = ap (λ (vs : List (List Bit)). map (λ v. Some v) vs) c.in_ok-push-in-Some.ensures.items ∙ map-append (λ v. Some v) c.loop-value.given.items (value ∷ [])
          ∙ ap (λ (os : List (Option (List Bit))). os ++ Some value ∷ []) c.loop-value.invariant.values
          ∙ ap (λ (o : Option (List Bit)). take i values ++ o ∷ []) (sym is) ∙ sym (take_more values i item c.loop-value-test.true);
      all = list_all_more is_some values i item c.loop-value-test.true
          ∙ ap (λ b. b && is_some (get_or values i item)) c.loop-value.invariant.all ∙ ap (λ (o : Option (List Bit)). is_some o) is;
    }

pub returns-clause-err : goal.returns-clause-err
returns-clause-err c = tt

pub returns-clause-values : goal.returns-clause-values
returns-clause-values c = c.loop-value.invariant.values ∙ take_all c.loop-value.value-index c.args.values.now c.loop-value-test.false
