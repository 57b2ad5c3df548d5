use Rattle.std.proofs.lemmas.Result.{IfOk-from_err}
use Rattle.std.proofs.Common.{◌+◌, ◌++◌, ◌∙◌, List, ap, length}
use Rattle.svtv_table.specs.Binding.{cell_sample, faults_after, faults_by, wire_faults}
use Rattle.svtv_table.specs.Faults.{Stops, at_each}
use Rattle.svtv_table.specs.Indexing.{listed}
use Rattle.table_cells.specs.declared.table.Cell.{Cell}
use Rattle.svtv_table.proofs.After.{after_in, after_out, after_over, on_ok_both}
use Rattle.svtv_table.proofs.Each.{handed_on, stops_front}
use Rattle.svtv_table.proofs.binding.bind_row.Goals as goal

pub returns-in_err-target-clause-err : goal.returns-in_err-target-clause-err
unfolding faults_after
returns-in_err-target-clause-err c =
    let wires = c.args.wires.now.list.now in
    let vars = listed c.args.variables.now in
    let before = c.args.before.now in
    let line = length before + 1 in
    handed_on c.from_residual.result c.in_err-target.field-0.0 (Stops (faults_after wires vars before line c.args.row.now)) c.from_residual.ensures.1
    (stops_front (wire_faults wires line c.args.row.now) (faults_by wires vars before line c.args.row.now.kind c.args.row.now) c.in_err-target.field-0.0 c.in_err-target.ensures.err)

pub returns-in-In-clause-follows : goal.returns-in-In-clause-follows
returns-in-In-clause-follows c =
    on_ok_both c.bind_in.result c.bind_in.ensures.rows c.bind_in.ensures.marks
    (after_in c.args.wires.now.list.now (listed c.args.variables.now) c.args.before.now c.args.row.now c.args.work.now c.bind_in.new.drives c.in_ok-target.target.wire c.in_ok-target.target.width
    c.in-In.is c.in_ok-target.ensures.wire c.in_ok-target.ensures.within c.in_ok-target.ensures.width c.requires.follows)

pub returns-in-Over-clause-follows : goal.returns-in-Over-clause-follows
returns-in-Over-clause-follows c =
    on_ok_both c.bind_over.result c.bind_over.ensures.rows c.bind_over.ensures.marks
    (after_over c.args.wires.now.list.now (listed c.args.variables.now) c.args.before.now c.args.row.now c.args.work.now c.bind_over.new.overs c.in_ok-target.target.wire c.in_ok-target.target.width
    c.in-Over.is c.in_ok-target.ensures.wire c.in_ok-target.ensures.within c.in_ok-target.ensures.width c.requires.follows)

pub returns-in-Out-clause-follows : goal.returns-in-Out-clause-follows
returns-in-Out-clause-follows c =
    on_ok_both c.sample_cells.result c.sample_cells.ensures.list c.sample_cells.ensures.named
    (λ put. after_out c.args.wires.now.list.now (listed c.args.variables.now) c.args.before.now c.args.row.now c.args.work.now c.sample_cells.new.samples c.in_ok-target.target.wire c.in_ok-target.target.width
    c.in-Out.is c.in_ok-target.ensures.wire c.in_ok-target.ensures.width c.requires.follows
    (put ∙ ap (λ (cells : List Cell). c.args.work.now.samples.list ++ at_each (cell_sample c.in_ok-target.target.wire c.in_ok-target.target.width) 0 cells) c.as_slice.ensures))

pub returns-in_err-target-clause-fine : goal.returns-in_err-target-clause-fine
returns-in_err-target-clause-fine c = IfOk-from_err _ _ c.from_residual.ensures.0

pub returns-in_err-target-clause-follows : goal.returns-in_err-target-clause-follows
returns-in_err-target-clause-follows c = IfOk-from_err _ _ c.from_residual.ensures.0
