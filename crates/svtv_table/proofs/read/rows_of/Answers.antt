use Rattle.std.proofs.lemmas.Result.{IfOk-from_err}
use Rattle.std.proofs.Common.{◌≡◌, ◌∷◌, ◌++◌, [], ap, sym, ◌∙◌, arith, map, get_or, subst}
use Rattle.std.proofs.lemmas.List.{get_or-map, length-map, map_more}
use Rattle.svtv_table.specs.Faults.{at_each, Stops}
use Rattle.svtv_table.specs.Fields.{fields_in}
use Rattle.svtv_table.specs.Reading.{record_faults, row_of}
use Rattle.svtv_table.proofs.Each.{go_on, stop_at, handed_on}
use Rattle.svtv_table.proofs.read.rows_of.Goals as goal

pub returns-in_err-row_of-clause-err : goal.returns-in_err-row_of-clause-err
returns-in_err-row_of-clause-err c =
    let rows = map fields_in c.args.records.now in
    let all = at_each (record_faults c.args.count) 0 rows in
    let here : get_or rows c.loop-at.at [] ≡ fields_in c.index-records-at.result = get_or-map fields_in c.args.records.now c.loop-at.at c.index-records-at.result [] (omega arith) ∙ ap fields_in (sym c.index-records-at.is) in
    handed_on c.from_residual.result c.in_err-row_of.field-0.0 (Stops all) c.from_residual.ensures.1
    (stop_at (record_faults c.args.count) rows c.loop-at.at [] all c.in_err-row_of.field-0.0 (omega (arith, length-map c.args.records.now fields_in)) c.loop-at.invariant.fine
    (subst (λ fields. Stops (record_faults c.args.count c.loop-at.at fields) c.in_err-row_of.field-0.0) (sym here) c.in_err-row_of.ensures.err))

pub loop-at-preserved : goal.loop-at-preserved
loop-at-preserved c =
    let rows = map fields_in c.args.records.now in
    let here : get_or rows c.loop-at.at [] ≡ fields_in c.index-records-at.result = get_or-map fields_in c.args.records.now c.loop-at.at c.index-records-at.result [] (omega arith) ∙ ap fields_in (sym c.index-records-at.is) in
    record {
      fine = go_on (record_faults c.args.count) rows c.loop-at.at [] (at_each (record_faults c.args.count) 0 rows) (omega (arith, length-map c.args.records.now fields_in)) (ap (record_faults c.args.count c.loop-at.at) here ∙ c.in_ok-row_of.ensures.fine) c.loop-at.invariant.fine;
      rows = c.in_ok-push.ensures.ok ∙ (ap (λ r. c.loop-at.rows ++ r ∷ []) (c.in_ok-row_of.ensures.row ∙ ap row_of (sym here))
          ∙ (ap (λ rs. rs ++ row_of (get_or rows c.loop-at.at []) ∷ []) c.loop-at.invariant.rows ∙ sym (map_more row_of rows c.loop-at.at [] (omega (arith, length-map c.args.records.now fields_in)))));
    }

pub returns-in_err-push-clause-fine : goal.returns-in_err-push-clause-fine
returns-in_err-push-clause-fine c = IfOk-from_err _ _ c.from_residual-in_err-push.ensures.0

pub returns-in_err-push-clause-rows : goal.returns-in_err-push-clause-rows
returns-in_err-push-clause-rows c = IfOk-from_err _ _ c.from_residual-in_err-push.ensures.0

pub returns-in_err-row_of-clause-fine : goal.returns-in_err-row_of-clause-fine
returns-in_err-row_of-clause-fine c = IfOk-from_err _ _ c.from_residual.ensures.0

pub returns-in_err-row_of-clause-rows : goal.returns-in_err-row_of-clause-rows
returns-in_err-row_of-clause-rows c = IfOk-from_err _ _ c.from_residual.ensures.0
