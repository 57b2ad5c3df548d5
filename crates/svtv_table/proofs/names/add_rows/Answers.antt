use Rattle.std.proofs.lemmas.Result.{IfOk-from_err}
use Rattle.std.proofs.Common.{List, ◌∙◌, sym, ap, arith}
use Rattle.std.specs.List.{flat_map}
use Rattle.std.proofs.lemmas.List.{drop_all}
use Rattle.svtv_table.specs.Binding.{declared_in, variables_of}
use Rattle.svtv_table.specs.Indexing.{listed, with_vars}
use Rattle.svtv_table.specs.declared.bound.VarDecl.{VarDecl}
use Rattle.svtv_table.proofs.Declared.{collected}
use Rattle.svtv_table.proofs.names.add_rows.Goals as goal

pub loop-row-init : goal.loop-row-init
loop-row-init c = ap (λ (vars : List VarDecl). with_vars vars (flat_map (declared_in c.args.wires.now.list.now) c.args.rows.now)) c.requires.none

pub returns : goal.returns
unfolding variables_of
returns c =
    let wires = c.args.wires.now.list.now in
    let rows = c.args.rows.now in
    sym (ap (λ rs. with_vars (listed c.loop-row.variables) (flat_map (declared_in wires) rs)) (drop_all c.loop-row.row-index rows (omega arith)))
    ∙ (c.loop-row.invariant ∙ collected (flat_map (declared_in wires) rows))

pub returns-in_err-add_row : goal.returns-in_err-add_row
returns-in_err-add_row c = IfOk-from_err _ _ c.from_residual.ensures.0
