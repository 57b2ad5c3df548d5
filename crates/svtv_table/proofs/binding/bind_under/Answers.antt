use Rattle.std.proofs.lemmas.Result.{IfOk-from_err}
use Rattle.std.proofs.Common.{List, ◌∙◌, ap, refl, sym, subst}
use Rattle.svtv_table.specs.Binding.{bind_faults, variables_of}
use Rattle.svtv_table.specs.Faults.{Stops}
use Rattle.svtv_table.specs.Indexing.{listed}
use Rattle.svtv_table.specs.declared.bound.VarDecl.{VarDecl}
use Rattle.svtv_table.proofs.Bounds.{bound_is, faults_are, made}
use Rattle.svtv_table.proofs.Each.{handed_on}
use Rattle.svtv_table.proofs.binding.bind_under.Goals as goal

pub returns-in_err-work-clause-err : goal.returns-in_err-work-clause-err
returns-in_err-work-clause-err c =
    let wires = c.args.wires.now.list.now in
    let e = c.in_err-work.field-0.0 in
    handed_on c.from_residual-in_err-work.result e (Stops (bind_faults wires c.args.table.now)) c.from_residual-in_err-work.ensures.1
    (subst (λ fs. Stops fs e)
    (faults_are wires wires c.args.table.now c.as_slice-rows.result.now (listed c.args.variables.now) refl c.as_slice-rows.ensures (c.requires.declared ∙ ap (variables_of c.args.wires.now.list.now) (sym c.as_slice-rows.ensures)))
    c.in_err-work.ensures.err)

pub returns-clause-bound : goal.returns-clause-bound
returns-clause-bound c =
    c.finished.ensures ∙ ap (λ (vars : List VarDecl). made c.args.table.now.phases vars c.in_ok-work.work.drives.rows c.in_ok-work.work.overs.rows c.in_ok-work.work.samples.list) c.in_ok-vars.ensures
    ∙ bound_is c.args.wires.now.list.now c.args.wires.now.list.now c.args.table.now c.as_slice-rows.result.now (listed c.args.variables.now) c.in_ok-work.work
    refl c.as_slice-rows.ensures (c.requires.declared ∙ ap (variables_of c.args.wires.now.list.now) (sym c.as_slice-rows.ensures)) c.in_ok-work.ensures.follows

pub returns-clause-fine : goal.returns-clause-fine
returns-clause-fine c =
    sym (faults_are c.args.wires.now.list.now c.args.wires.now.list.now c.args.table.now c.as_slice-rows.result.now (listed c.args.variables.now) refl c.as_slice-rows.ensures (c.requires.declared ∙ ap (variables_of c.args.wires.now.list.now) (sym c.as_slice-rows.ensures)))
    ∙ c.in_ok-work.ensures.fine

pub returns-in_err-vars-clause-bound : goal.returns-in_err-vars-clause-bound
returns-in_err-vars-clause-bound c = IfOk-from_err _ _ c.from_residual.ensures.0

pub returns-in_err-vars-clause-fine : goal.returns-in_err-vars-clause-fine
returns-in_err-vars-clause-fine c = IfOk-from_err _ _ c.from_residual.ensures.0

pub returns-in_err-work-clause-bound : goal.returns-in_err-work-clause-bound
returns-in_err-work-clause-bound c = IfOk-from_err _ _ c.from_residual-in_err-work.ensures.0

pub returns-in_err-work-clause-fine : goal.returns-in_err-work-clause-fine
returns-in_err-work-clause-fine c = IfOk-from_err _ _ c.from_residual-in_err-work.ensures.0
