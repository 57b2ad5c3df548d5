use Rattle.std.proofs.lemmas.Result.{IfOk-from_err}
use Rattle.std.proofs.Common.{arith, ◌≡◌, [], Some, None, ap, sym, ◌∙◌, ◌∷◌, ◌++◌}
use Rattle.svtv_table.specs.Fields.{fields_in}
use Rattle.table_cells.specs.Cells.{cell_of}
use Rattle.svtv_table.specs.Reading.{cell_fault, cell_in, cell_faults}
use Rattle.svtv_table.proofs.Each.{go_on, stop_at, grow_map}
use Rattle.svtv_table.proofs.Rows.{bad_cell, fine_cell, cell_in_some}
use Rattle.std.proofs.Common.{get_or}
use Rattle.svtv_table.proofs.read.cells_of.Goals as goal

pub returns-in_default-clause-err : goal.returns-in_default-clause-err
returns-in_default-clause-err c =
    let fields = fields_in c.args.csv_record.now in
    let none : cell_of c.args.kind (get_or fields c.loop-at.at []) ≡ None = ap (cell_of c.args.kind) (sym c.field_at.ensures) ∙ (sym c.in_ok-cell.ensures ∙ c.in_default.is) in
    stop_at (cell_fault c.args.kind c.args.line) fields c.loop-at.at [] (cell_faults c.args.kind c.args.line fields) c.refused.result (omega (arith, c.loop-at-test.true, c.count_of-at-end.ensures)) c.loop-at.invariant.fine
    (bad_cell c.args.kind c.args.line c.loop-at.at (get_or fields c.loop-at.at []) c.refused.result none c.refused.ensures)

pub loop-at-preserved : goal.loop-at-preserved
loop-at-preserved c =
    let fields = fields_in c.args.csv_record.now in
    let some : cell_of c.args.kind (get_or fields c.loop-at.at []) ≡ Some c.in-Some.cell = ap (cell_of c.args.kind) (sym c.field_at.ensures) ∙ (sym c.in_ok-cell.ensures ∙ c.in-Some.is) in
    record {
      fine = go_on (cell_fault c.args.kind c.args.line) fields c.loop-at.at [] (cell_faults c.args.kind c.args.line fields) (omega (arith, c.loop-at-test.true, c.count_of-at-end.ensures)) (fine_cell c.args.kind c.args.line c.loop-at.at (get_or fields c.loop-at.at []) c.in-Some.cell some) c.loop-at.invariant.fine;
      cells = grow_map (cell_in c.args.kind) fields c.loop-at.at [] c.loop-at.cells c.push.new.self _ (omega (arith, c.loop-at-test.true, c.count_of-at-end.ensures)) (c.in_ok-push.ensures.ok ∙ ap (λ x. c.loop-at.cells ++ x ∷ []) (sym (cell_in_some c.args.kind (get_or fields c.loop-at.at []) c.in-Some.cell some))) c.loop-at.invariant.cells;
    }

pub returns-in_err-cell-clause-cells : goal.returns-in_err-cell-clause-cells
returns-in_err-cell-clause-cells c = IfOk-from_err _ _ c.from_residual.ensures.0

pub returns-in_err-cell-clause-fine : goal.returns-in_err-cell-clause-fine
returns-in_err-cell-clause-fine c = IfOk-from_err _ _ c.from_residual.ensures.0

pub returns-in_err-push-clause-cells : goal.returns-in_err-push-clause-cells
returns-in_err-push-clause-cells c = IfOk-from_err _ _ c.from_residual-in_err-push.ensures.0

pub returns-in_err-push-clause-fine : goal.returns-in_err-push-clause-fine
returns-in_err-push-clause-fine c = IfOk-from_err _ _ c.from_residual-in_err-push.ensures.0
