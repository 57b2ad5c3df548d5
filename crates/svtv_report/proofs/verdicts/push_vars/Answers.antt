use Rattle.std.proofs.lemmas.Result.{IfOk-from_err}
use Rattle.std.proofs.Common.{codes, length}
use Rattle.std.proofs.lemmas.List.{length_push}
use Rattle.std.proofs.lemmas.Slice.Zip.{zip_turn, zip_end}
use Rattle.svtv_table.specs.declared.bound.VarDecl.{VarDecl}
use Rattle.svtv_report.proofs.Lines.{line_pushed, lines_end}
use Rattle.svtv_report.proofs.verdicts.push_vars.Goals as goal

pub vars-preserved : goal.vars-preserved
vars-preserved c =
    let t = zip_turn c.args.vars.now c.args.values.now c.vars.yielded c.into_iter-var-iterator.result c.vars.var-iterator c.next.new.self _ (cc) (cc) c.vars.yielded_by (c.in-Some.var, c.in-Some.value) c.in-Some.is c.next.ensures.steps in
    line_pushed (λ (s : VarDecl). s.name) (codes "  var ") _ c.vars.text.items c.push_line.new.text.items c.args.vars.now c.args.values.now (length c.vars.yielded) _
    c.in-Some.var.now c.in-Some.value.now (length_push c.vars.yielded (c.in-Some.var, c.in-Some.value)) t.0 t.1 (t.2 c.in-Some.var.now) (t.3 c.in-Some.value.now) c.vars.invariant c.in_ok-push_line.ensures

pub returns : goal.returns
returns c =
    let t = zip_end c.args.vars.now c.args.values.now c.vars.yielded c.into_iter-var-iterator.result c.vars.var-iterator c.next.new.self _ (cc) (cc) c.vars.yielded_by c.in-None.is c.next.ensures.steps in
    lines_end (λ (s : VarDecl). s.name) (codes "  var ") _ c.vars.text.items c.args.vars.now c.args.values.now (length c.vars.yielded) t c.vars.invariant

pub returns-in_err-push_line : goal.returns-in_err-push_line
returns-in_err-push_line c = IfOk-from_err _ _ c.from_residual.ensures.0
