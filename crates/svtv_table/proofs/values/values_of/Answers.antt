use Rattle.std.proofs.lemmas.Result.{IfOk-from_err}
use Rattle.std.proofs.Common.{◌∙◌, ap, sym, map, subst}
use Rattle.std.specs.Prelude.{is_some, not}
use Rattle.std.specs.List.{list_all}
use Rattle.svtv_table.specs.Faults.{Stops, at_each, fault, fault_if}
use Rattle.svtv_table.specs.Fields.{fields_in}
use Rattle.svtv_table.specs.Valuing.{is_given, record_faults, values_faults}
use Rattle.svtv_table.proofs.Each.{handed_on, no_faults, stops_behind}
use Rattle.svtv_table.proofs.Valued.{all_given_is, values_are}
use Rattle.svtv_table.proofs.values.values_of.Goals as goal

pub returns-in_err-given-clause-err : goal.returns-in_err-given-clause-err
unfolding values_faults
returns-in_err-given-clause-err c =
    let vars = c.args.vars.now in
    let rows = map fields_in c.args.records.now in
    let e = c.in_err-given.field-0.0 in
    let same = ap (λ vs. fault_if (not (list_all is_some vs)) (fault 35 1 1)) (c.deref.ensures.value ∙ c.in_ok-values.ensures.values) ∙ ap (λ b. fault_if (not b) (fault 35 1 1)) (all_given_is rows vars) in
    handed_on c.from_residual-in_err-given.result e (Stops (values_faults vars rows)) c.from_residual-in_err-given.ensures.1
    (stops_behind (at_each (record_faults vars rows) 0 rows) (fault_if (not (list_all (is_given rows) vars)) (fault 35 1 1)) e c.in_ok-values.ensures.fine
    (subst (λ fs. Stops fs e) same c.in_err-given.ensures.err))

pub returns-clause-values : goal.returns-clause-values
returns-clause-values c =
    values_are (map fields_in c.args.records.now) c.args.vars.now c.in_ok-given.given.items (c.in_ok-given.ensures.values ∙ (c.deref.ensures.value ∙ c.in_ok-values.ensures.values))

pub returns-clause-fine : goal.returns-clause-fine
unfolding values_faults
returns-clause-fine c =
    let vars = c.args.vars.now in
    let rows = map fields_in c.args.records.now in
    let same = ap (λ vs. fault_if (not (list_all is_some vs)) (fault 35 1 1)) (c.deref.ensures.value ∙ c.in_ok-values.ensures.values) ∙ ap (λ b. fault_if (not b) (fault 35 1 1)) (all_given_is rows vars) in
    no_faults (at_each (record_faults vars rows) 0 rows) (fault_if (not (list_all (is_given rows) vars)) (fault 35 1 1)) c.in_ok-values.ensures.fine (sym same ∙ c.in_ok-given.ensures.fine)

pub returns-in_err-given-clause-fine : goal.returns-in_err-given-clause-fine
returns-in_err-given-clause-fine c = IfOk-from_err _ _ c.from_residual-in_err-given.ensures.0

pub returns-in_err-given-clause-values : goal.returns-in_err-given-clause-values
returns-in_err-given-clause-values c = IfOk-from_err _ _ c.from_residual-in_err-given.ensures.0

pub returns-in_err-values-clause-fine : goal.returns-in_err-values-clause-fine
returns-in_err-values-clause-fine c = IfOk-from_err _ _ c.from_residual.ensures.0

pub returns-in_err-values-clause-values : goal.returns-in_err-values-clause-values
returns-in_err-values-clause-values c = IfOk-from_err _ _ c.from_residual.ensures.0
