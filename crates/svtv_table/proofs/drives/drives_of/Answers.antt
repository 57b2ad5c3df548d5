use Rattle.std.proofs.lemmas.Result.{IfOk-from_err}
use Rattle.std.proofs.Common.{List, ◌++◌, sym, ap, ◌∙◌}
use Rattle.std.proofs.lemmas.List.{append-nil}
use Rattle.svtv_table.specs.Binding.{phase_faults}
use Rattle.svtv_table.specs.Drives.{phase_drive}
use Rattle.svtv_table.specs.Indexing.{listed}
use Rattle.svtv_table.specs.declared.bound.Drive.{Drive}
use Rattle.svtv_table.proofs.Each.{each_none}
use Rattle.svtv_table.proofs.drives.drives_of.Goals as goal

pub returns-in_err-drive-clause-drives : goal.returns-in_err-drive-clause-drives
returns-in_err-drive-clause-drives c = IfOk-from_err _ _ c.from_residual.ensures.0

pub returns-in_err-drive-clause-fine : goal.returns-in_err-drive-clause-fine
returns-in_err-drive-clause-fine c = IfOk-from_err _ _ c.from_residual.ensures.0

pub returns-in_err-push-clause-drives : goal.returns-in_err-push-clause-drives
returns-in_err-push-clause-drives c = IfOk-from_err _ _ c.from_residual-in_err-push.ensures.0

pub returns-in_err-push-clause-fine : goal.returns-in_err-push-clause-fine
returns-in_err-push-clause-fine c = IfOk-from_err _ _ c.from_residual-in_err-push.ensures.0

pub returns-clause-drives : goal.returns-clause-drives
returns-clause-drives c =
    let f = phase_drive c.args.target.now.width (listed c.args.variables.now) c.args.cells.now in
    sym (append-nil c.loop-phase.drives) ∙ ap (λ (ds : List Drive). c.loop-phase.drives ++ ds) (sym (each_none f c.args.cells.now c.loop-phase.phase c.loop-phase-test.false))
    ∙ c.loop-phase.invariant.drives

pub returns-clause-err : goal.returns-clause-err
returns-clause-err c = tt

pub returns-clause-fine : goal.returns-clause-fine
returns-clause-fine c = sym c.loop-phase.invariant.fine
    ∙ each_none (phase_faults c.args.target.now.width (listed c.args.variables.now) c.args.cells.now c.args.target.now.line) c.args.cells.now c.loop-phase.phase c.loop-phase-test.false
