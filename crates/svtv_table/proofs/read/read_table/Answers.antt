use Rattle.std.proofs.Common.{◌≡◌, ◌∙◌, ap, sym, map, subst}
use Rattle.svtv_table.specs.Fields.{fields_in}
use Rattle.svtv_table.specs.Faults.{Stops}
use Rattle.svtv_table.specs.Reading.{table_faults, table_of, IsWellFormed}
use Rattle.svtv_table.proofs.Rows.{are_records, stops_text}
use Rattle.svtv_table.proofs.Formed.{is_formed}
use Rattle.svtv_table.proofs.read.read_table.Goals as goal

pub returns-in-Ok-table_of-clause-table : goal.returns-in-Ok-table_of-clause-table
returns-in-Ok-table_of-clause-table c =
    let same : map fields_in c.deref.result.now ≡ map fields_in c.in-Ok.records.items = ap (map fields_in) c.deref.ensures.value in
    (map fields_in c.in-Ok.records.items, are_records c.args.text.now c.in-Ok.records.items c.in-Ok.ensures, ap table_faults (sym same) ∙ c.in-Ok-table_of.ensures.fine, c.in-Ok-table_of.ensures.table ∙ ap table_of same)

pub returns-in-Ok-table_of-clause-formed : goal.returns-in-Ok-table_of-clause-formed
returns-in-Ok-table_of-clause-formed c = subst IsWellFormed (sym c.in-Ok-table_of.ensures.table) (is_formed (map fields_in c.deref.result.now) c.in-Ok-table_of.ensures.fine)

pub returns-clause-err : goal.returns-clause-err
returns-clause-err c =
    let same : map fields_in c.deref.result.now ≡ map fields_in c.in-Ok.records.items = ap (map fields_in) c.deref.ensures.value in
    stops_text table_faults c.args.text.now (map fields_in c.in-Ok.records.items) c.in-Err.error (are_records c.args.text.now c.in-Ok.records.items c.in-Ok.ensures)
    (subst (λ rows. Stops (table_faults rows) c.in-Err.error) same c.in-Err.ensures.err)
