use Rattle.std.proofs.Common.{◌≡◌, ◌∙◌, ap, sym, map, subst}
use Rattle.svtv_table.specs.Fields.{fields_in}
use Rattle.svtv_table.specs.Faults.{Stops}
use Rattle.svtv_table.specs.Valuing.{values_faults, values_of}
use Rattle.svtv_table.proofs.Rows.{are_records, stops_text}
use Rattle.svtv_table.proofs.values.read_values.Goals as goal

pub returns-in-Ok-values_of-clause-values : goal.returns-in-Ok-values_of-clause-values
returns-in-Ok-values_of-clause-values c =
    let vars = c.args.vars.now in
    let same : map fields_in c.deref.result.now ≡ map fields_in c.in-Ok.records.items = ap (map fields_in) c.deref.ensures.value in
    (map fields_in c.in-Ok.records.items, are_records c.args.text.now c.in-Ok.records.items c.in-Ok.ensures, ap (values_faults vars) (sym same) ∙ c.in-Ok-values_of.ensures.fine, c.in-Ok-values_of.ensures.values ∙ ap (values_of vars) same)

pub returns-clause-err : goal.returns-clause-err
returns-clause-err c =
    let vars = c.args.vars.now in
    let same : map fields_in c.deref.result.now ≡ map fields_in c.in-Ok.records.items = ap (map fields_in) c.deref.ensures.value in
    stops_text (values_faults vars) c.args.text.now (map fields_in c.in-Ok.records.items) c.in-Err.error (are_records c.args.text.now c.in-Ok.records.items c.in-Ok.ensures)
    (subst (λ rows. Stops (values_faults vars rows) c.in-Err.error) same c.in-Err.ensures.err)
