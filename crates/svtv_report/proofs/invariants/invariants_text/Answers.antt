use Rattle.std.proofs.lemmas.Result.{IfOk-from_err}
use Rattle.std.proofs.Common.{◌++◌, List, drop, ap, ◌∙◌, arith}
use Rattle.fourvec.specs.declared.Bit.{Bit}
use Rattle.svtv_report.specs.Shown.{names_of}
use Rattle.svtv_report.specs.Invariants.{invariant_text}
use Rattle.svtv_report.proofs.Sayings.{invariant_pushed, invariants_end}
use Rattle.svtv_report.proofs.invariants.invariants_text.Goals as goal

pub invariants-preserved : goal.invariants-preserved
invariants-preserved c =
    let n = names_of c.args.columns in
    let name = c.index-names-at.result in
    let verdict = c.index-verdicts-at.result in
    invariant_pushed n _ c.invariants.text.items c.push_invariant.new.text.items c.args.names.now c.args.verdicts.now c.args.before.now c.args.shown.now c.invariants.at
    name verdict c.index-before-at.result c.index-shown-at.result c.invariants-test.true c.requires.verdicts c.requires.before c.requires.shown
    c.index-names-at.is c.index-verdicts-at.is c.index-before-at.is c.index-shown-at.is
    c.invariants.invariant
    (c.in_ok-push_invariant.ensures ∙ ap (λ (b : List (List Bit)). c.invariants.text.items ++ invariant_text n name verdict b c.as_slice-in-invariants.result.now) c.as_slice.ensures
    ∙ ap (λ (s : List (List Bit)). c.invariants.text.items ++ invariant_text n name verdict c.index-before-at.result s) c.as_slice-in-invariants.ensures)

pub returns : goal.returns
returns c =
    invariants_end (names_of c.args.columns) _ c.invariants.text.items c.args.names.now (drop c.invariants.at c.args.verdicts.now) (drop c.invariants.at c.args.before.now) (drop c.invariants.at c.args.shown.now)
    c.invariants.at (omega (arith, c.invariants-test.false)) c.invariants.invariant

pub returns-in_err-push_invariant : goal.returns-in_err-push_invariant
returns-in_err-push_invariant c = IfOk-from_err _ _ c.from_residual.ensures.0
