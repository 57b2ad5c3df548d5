use Rattle.std.proofs.lemmas.Result.{IfOk-from_err}
use Rattle.std.proofs.Common.{◌++◌, List, map, drop, ap, ◌∙◌, arith}
use Rattle.fourvec.specs.declared.Bit.{Bit}
use Rattle.svtv_report.specs.Seen.{verdict_is}
use Rattle.svtv_report.specs.Shown.{var_texts, sample_texts}
use Rattle.svtv_report.specs.Texts.{verdict_text}
use Rattle.svtv_report.proofs.Lines.{goal_pushed, goals_end}
use Rattle.svtv_report.proofs.verdicts.report.Goals as goal

pub goals-preserved : goal.goals-preserved
goals-preserved c =
    let vars = var_texts c.args.vars.now in
    let samples = sample_texts c.args.samples.now in
    let name = c.index-names-at.result in
    let verdict = c.index-verdicts-at.result in
    goal_pushed verdict_is vars samples _ c.goals.text.items c.push_verdict.new.text.items c.args.names.now c.args.verdicts.now c.args.shown.now c.goals.at
    name verdict c.index-shown-at.result c.goals-test.true c.requires.verdicts c.requires.shown c.index-names-at.is c.index-verdicts-at.is c.index-shown-at.is
    c.goals.invariant (c.in_ok-push_verdict.ensures ∙ ap (λ (shown : List (List Bit)). c.goals.text.items ++ verdict_text vars samples name (verdict_is verdict) shown) c.as_slice.ensures)

pub returns : goal.returns
returns c =
    goals_end (var_texts c.args.vars.now) (sample_texts c.args.samples.now) _ c.goals.text.items c.args.names.now (map verdict_is (drop c.goals.at c.args.verdicts.now)) (drop c.goals.at c.args.shown.now) c.goals.at (omega (arith, c.goals-test.false)) c.goals.invariant

pub returns-in_err-push_verdict : goal.returns-in_err-push_verdict
returns-in_err-push_verdict c = IfOk-from_err _ _ c.from_residual.ensures.0
