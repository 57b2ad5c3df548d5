use Rattle.std.proofs.lemmas.Result.{IfOk-from_err}
use Rattle.std.proofs.Common.{◌≡◌, ◌+◌, ◌++◌, ◌∷◌, ◌≤◌, [], length, ap, sym, ◌∙◌, arith, map, take, subst, get_or}
use Rattle.std.specs.Prelude.{unwrap_or}
use Rattle.std.specs.List.{list_any}
use Rattle.std.proofs.lemmas.List.{get_or-map, length-map, take_all, take_more}
use Rattle.sv_literal.specs.Meaning.{meaning_of}
use Rattle.table_cells.specs.Constants.{constant}
use Rattle.svtv_table.specs.Faults.{Stops, at_each}
use Rattle.svtv_table.specs.Fields.{fields_in}
use Rattle.svtv_table.specs.Following.{is_valued, with_value}
use Rattle.svtv_table.specs.Names.{number_of, width_under}
use Rattle.svtv_table.specs.Valuing.{given_value, is_of, name_at, record_faults, text_at, value_faults}
use Rattle.svtv_table.proofs.Each.{each_none, go_on, handed_on, stop_at}
use Rattle.svtv_table.proofs.Valued.{faults_same, put_one}
use Rattle.svtv_table.proofs.values.put_values.Goals as goal

pub returns-in_err-put_value-clause-err : goal.returns-in_err-put_value-clause-err
returns-in_err-put_value-clause-err c =
    let vars = c.args.vars.now in
    let rows = map fields_in c.args.records.now in
    let at = c.loop-at.at in
    let before = take at rows in
    let fields = fields_in c.index-records-at.result in
    let e = c.in_err-put_value.field-0.0 in
    let here : get_or rows at [] ≡ fields = get_or-map fields_in c.args.records.now at c.index-records-at.result [] (omega arith) ∙ ap fields_in (sym c.index-records-at.is) in
    handed_on c.from_residual-in_err-put_value.result e (Stops (at_each (record_faults vars rows) 0 rows)) c.from_residual-in_err-put_value.ensures.1
    (stop_at (record_faults vars rows) rows at [] (at_each (record_faults vars rows) 0 rows) e (omega (arith, length-map c.args.records.now fields_in)) c.loop-at.invariant.fine
    (subst (λ fs. Stops (record_faults vars rows at fs) e) (sym here)
    (subst (λ fs. Stops fs e) (ap (λ vs. value_faults vars (is_valued vs (number_of vars (name_at fields))) (at + 1) fields) c.loop-at.invariant.values ∙ faults_same vars before (at + 1) fields)
    c.in_err-put_value.ensures.err)))

pub loop-at-preserved : goal.loop-at-preserved
loop-at-preserved c =
    let vars = c.args.vars.now in
    let rows = map fields_in c.args.records.now in
    let at = c.loop-at.at in
    let before = take at rows in
    let fields = fields_in c.index-records-at.result in
    let here : get_or rows at [] ≡ fields = get_or-map fields_in c.args.records.now at c.index-records-at.result [] (omega arith) ∙ ap fields_in (sym c.index-records-at.is) in
    let fine : value_faults vars (list_any (is_of (name_at fields)) before) (at + 1) fields ≡ [] =
    sym (ap (λ vs. value_faults vars (is_valued vs (number_of vars (name_at fields))) (at + 1) fields) c.loop-at.invariant.values ∙ faults_same vars before (at + 1) fields) ∙ c.in_ok-put_value.ensures.fine in
    record {
      values = c.in_ok-put_value.ensures.values
          ∙ (ap (λ vs. with_value vs (number_of vars (name_at fields)) (constant (meaning_of (text_at fields)) (unwrap_or (width_under vars (name_at fields)) 0))) c.loop-at.invariant.values
          ∙ (put_one vars before (at + 1) fields c.requires.distinct fine
          ∙ ap (λ rs. map (given_value rs) vars) (ap (λ fs. before ++ fs ∷ []) (sym here) ∙ sym (take_more rows at [] (omega (arith, length-map c.args.records.now fields_in))))));
      fine = go_on (record_faults vars rows) rows at [] (at_each (record_faults vars rows) 0 rows) (omega (arith, length-map c.args.records.now fields_in)) (ap (record_faults vars rows at) here ∙ fine) c.loop-at.invariant.fine;
    }

pub put_value-requires-clause-room : goal.put_value-requires-clause-room
put_value-requires-clause-room c = ap length c.loop-at.invariant.values ∙ length-map c.args.vars.now (given_value (take c.loop-at.at (map fields_in c.args.records.now)))

pub returns-clause-values : goal.returns-clause-values
returns-clause-values c =
    let rows = map fields_in c.args.records.now in
    let past : length rows ≤ c.loop-at.at = omega (arith, length-map c.args.records.now fields_in) in
    c.loop-at.invariant.values ∙ ap (λ rs. map (given_value rs) c.args.vars.now) (take_all c.loop-at.at rows past)

pub returns-clause-fine : goal.returns-clause-fine
returns-clause-fine c =
    let rows = map fields_in c.args.records.now in
    let past : length rows ≤ c.loop-at.at = omega (arith, length-map c.args.records.now fields_in) in
    sym c.loop-at.invariant.fine ∙ each_none (record_faults c.args.vars.now rows) rows c.loop-at.at past

pub returns-in_err-index-clause-fine : goal.returns-in_err-index-clause-fine
returns-in_err-index-clause-fine c = IfOk-from_err _ _ c.from_residual.ensures.0

pub returns-in_err-index-clause-values : goal.returns-in_err-index-clause-values
returns-in_err-index-clause-values c = IfOk-from_err _ _ c.from_residual.ensures.0

pub returns-in_err-put_value-clause-fine : goal.returns-in_err-put_value-clause-fine
returns-in_err-put_value-clause-fine c = IfOk-from_err _ _ c.from_residual-in_err-put_value.ensures.0

pub returns-in_err-put_value-clause-values : goal.returns-in_err-put_value-clause-values
returns-in_err-put_value-clause-values c = IfOk-from_err _ _ c.from_residual-in_err-put_value.ensures.0

pub returns-in_err-values-clause-fine : goal.returns-in_err-values-clause-fine
returns-in_err-values-clause-fine c = IfOk-from_err _ _ c.from_residual-in_err-values.ensures.0

pub returns-in_err-values-clause-values : goal.returns-in_err-values-clause-values
returns-in_err-values-clause-values c = IfOk-from_err _ _ c.from_residual-in_err-values.ensures.0
