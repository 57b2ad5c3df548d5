use Rattle.std.proofs.lemmas.Result.{IfOk-from_err}
use Rattle.std.proofs.Common.{length}
use Rattle.std.proofs.lemmas.List.{length_push}
use Rattle.std.proofs.lemmas.Slice.Zip.{zip_turn, zip_end}
use Rattle.svtv_table.specs.declared.bound.Sample.{Sample}
use Rattle.svtv_report.proofs.Lines.{line_pushed, lines_end}
use Rattle.svtv_report.proofs.verdicts.push_samples.Goals as goal

pub samples-preserved : goal.samples-preserved
samples-preserved c =
    let t = zip_turn c.args.samples.now c.args.values.now c.samples.yielded c.into_iter-sample-iterator.result c.samples.sample-iterator c.next.new.self _ (cc) (cc) c.samples.yielded_by (c.in-Some.sample, c.in-Some.value) c.in-Some.is c.next.ensures.steps in
    line_pushed (λ (s : Sample). s.name) c.args.before.now _ c.samples.text.items c.push_line.new.text.items c.args.samples.now c.args.values.now (length c.samples.yielded) _
    c.in-Some.sample.now c.in-Some.value.now (length_push c.samples.yielded (c.in-Some.sample, c.in-Some.value)) t.0 t.1 (t.2 c.in-Some.sample.now) (t.3 c.in-Some.value.now) c.samples.invariant c.in_ok-push_line.ensures

pub returns : goal.returns
returns c =
    let t = zip_end c.args.samples.now c.args.values.now c.samples.yielded c.into_iter-sample-iterator.result c.samples.sample-iterator c.next.new.self _ (cc) (cc) c.samples.yielded_by c.in-None.is c.next.ensures.steps in
    lines_end (λ (s : Sample). s.name) c.args.before.now _ c.samples.text.items c.args.samples.now c.args.values.now (length c.samples.yielded) t c.samples.invariant

pub returns-in_err-push_line : goal.returns-in_err-push_line
returns-in_err-push_line c = IfOk-from_err _ _ c.from_residual.ensures.0
