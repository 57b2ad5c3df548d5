use Rattle.std.proofs.lemmas.Result.{IfOk-from_err}
use Rattle.std.proofs.Common.{◌≡◌, ◌+◌, ◌++◌, ◌∷◌, [], ℕ, List, length, take, sym, ◌∙◌, ap, subst, arith, refl}
use Rattle.std.proofs.lemmas.List.{length-take-le, take_all, take_more}
use Rattle.svtv_table.specs.Binding.{faults_after, row_faults}
use Rattle.svtv_table.specs.Faults.{Stops, at_each}
use Rattle.svtv_table.specs.Following.{Follows}
use Rattle.svtv_table.specs.Indexing.{listed}
use Rattle.table_cells.specs.declared.table.Row.{Row}
use Rattle.svtv_table.proofs.Each.{each_none, go_on, handed_on, stop_at}
use Rattle.svtv_table.proofs.binding.bind_rows.Goals as goal

pub bind_row-requires-clause-follows : goal.bind_row-requires-clause-follows
bind_row-requires-clause-follows c = c.loop-at.invariant.follows

pub loop-at-preserved : goal.loop-at-preserved
loop-at-preserved c =
    let wires = c.args.wires.now.list.now in
    let vars = listed c.args.variables.now in
    let rows = c.args.rows.now in
    let at = c.loop-at.at in
    let row : Row = c.index-rows-at.result in
    let long : length (take at rows) ≡ at = length-take-le at rows (omega arith) in
    record {
      follows = subst (λ (rs : List Row). Follows wires vars rs c.bind_row.new.work) (ap (λ (r : Row). take at rows ++ r ∷ []) c.index-rows-at.is ∙ sym (take_more rows at row c.loop-at-test.true)) c.in_ok-bind_row.ensures.follows;
      fine = go_on (row_faults wires vars rows) rows at row (at_each (row_faults wires vars rows) 0 rows) c.loop-at-test.true
          (ap (row_faults wires vars rows at) (sym c.index-rows-at.is) ∙ (ap (λ (n : ℕ). faults_after wires vars (take at rows) (n + 1) row) (sym long) ∙ c.in_ok-bind_row.ensures.fine)) c.loop-at.invariant.fine;
    }

pub returns-clause-follows : goal.returns-clause-follows
returns-clause-follows c =
    subst (λ (rs : List Row). Follows c.args.wires.now.list.now (listed c.args.variables.now) rs c.loop-at.work) (take_all c.loop-at.at c.args.rows.now c.loop-at-test.false) c.loop-at.invariant.follows

pub returns-clause-fine : goal.returns-clause-fine
returns-clause-fine c =
    sym c.loop-at.invariant.fine ∙ each_none (row_faults c.args.wires.now.list.now (listed c.args.variables.now) c.args.rows.now) c.args.rows.now c.loop-at.at c.loop-at-test.false

pub returns-in_err-bind_row-clause-err : goal.returns-in_err-bind_row-clause-err
returns-in_err-bind_row-clause-err c =
    let wires = c.args.wires.now.list.now in
    let vars = listed c.args.variables.now in
    let rows = c.args.rows.now in
    let at = c.loop-at.at in
    let row : Row = c.index-rows-at.result in
    let e = c.in_err-bind_row.field-0.0 in
    let long : length (take at rows) ≡ at = length-take-le at rows (omega arith) in
    let all = at_each (row_faults wires vars rows) 0 rows in
    handed_on c.from_residual-in_err-bind_row.result e (Stops all) c.from_residual-in_err-bind_row.ensures.1
    (stop_at (row_faults wires vars rows) rows at row all e c.loop-at-test.true c.loop-at.invariant.fine
    (subst (λ (r : Row). Stops (faults_after wires vars (take at rows) (at + 1) r) e) c.index-rows-at.is
    (subst (λ (n : ℕ). Stops (faults_after wires vars (take at rows) (n + 1) row) e) long c.in_err-bind_row.ensures.err)))

pub returns-in_err-bind_row-clause-fine : goal.returns-in_err-bind_row-clause-fine
returns-in_err-bind_row-clause-fine c = IfOk-from_err _ _ c.from_residual-in_err-bind_row.ensures.0

pub returns-in_err-bind_row-clause-follows : goal.returns-in_err-bind_row-clause-follows
returns-in_err-bind_row-clause-follows c = IfOk-from_err _ _ c.from_residual-in_err-bind_row.ensures.0

pub returns-in_err-work-clause-fine : goal.returns-in_err-work-clause-fine
returns-in_err-work-clause-fine c = IfOk-from_err _ _ c.from_residual.ensures.0

pub returns-in_err-work-clause-follows : goal.returns-in_err-work-clause-follows
returns-in_err-work-clause-follows c = IfOk-from_err _ _ c.from_residual.ensures.0

pub loop-at-init : goal.loop-at-init
loop-at-init c = record { follows = c.in_ok-work.ensures (listed c.args.variables.now); fine = refl }

pub bind_row-requires-clause-widths : goal.bind_row-requires-clause-widths
bind_row-requires-clause-widths c = c.requires

pub returns-clause-err : goal.returns-clause-err
returns-clause-err c = tt
