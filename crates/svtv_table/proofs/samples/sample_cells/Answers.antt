use Rattle.std.proofs.lemmas.Result.{IfOk-from_err}
use Rattle.std.proofs.Common.{arith, map, subst}
use Rattle.svtv_table.specs.Binding.{name_faults, sample_faults, sample_name}
use Rattle.svtv_table.specs.Faults.{Stops, at_each}
use Rattle.svtv_table.specs.Indexing.{listed}
use Rattle.svtv_table.proofs.Each.{handed_on, stop_at}
use Rattle.svtv_table.proofs.samples.sample_cells.Goals as goal

pub returns-in_err-sample_cell-clause-err : goal.returns-in_err-sample_cell-clause-err
returns-in_err-sample_cell-clause-err c =
    let vars = listed c.args.variables.now in
    let taken = map sample_name c.args.samples.now.list in
    let cells = c.args.cells.now in
    let faults = sample_faults vars taken cells c.args.target.now.line in
    let e = c.in_err-sample_cell.field-0.0 in
    handed_on c.from_residual.result e (Stops (at_each faults 0 cells)) c.from_residual.ensures.1
    (stop_at faults cells c.loop-phase.phase c.index-cells-phase.result (at_each faults 0 cells) e (omega arith) c.loop-phase.invariant.fine
    (subst (λ cell. Stops (faults c.loop-phase.phase cell) e) c.index-cells-phase.is
    (subst (λ names. Stops (name_faults vars names c.args.target.now.line c.loop-phase.phase c.index-cells-phase.result) e) c.loop-phase.invariant.names c.in_err-sample_cell.ensures.err)))

pub returns-in_err-sample_cell-clause-fine : goal.returns-in_err-sample_cell-clause-fine
returns-in_err-sample_cell-clause-fine c = IfOk-from_err _ _ c.from_residual.ensures.0

pub returns-in_err-sample_cell-clause-list : goal.returns-in_err-sample_cell-clause-list
returns-in_err-sample_cell-clause-list c = IfOk-from_err _ _ c.from_residual.ensures.0

pub returns-in_err-sample_cell-clause-named : goal.returns-in_err-sample_cell-clause-named
returns-in_err-sample_cell-clause-named c = IfOk-from_err _ _ c.from_residual.ensures.0
