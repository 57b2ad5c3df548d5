use Rattle.std.proofs.lemmas.Result.{IfOk-from_err}
use Rattle.std.proofs.Common.{sym, ◌∙◌}
use Rattle.fourvec.proofs.Reduce.{truth_is_red_or}
use Rattle.pair_words.specs.Rails.{bits}
use Rattle.svex_blast.proofs.operators.truth.Goals as goal

pub returns-clause-value : goal.returns-clause-value
returns-clause-value c = λ v o. c.in_ok-word.ensures.value v o ∙ sym (truth_is_red_or (bits v c.args.a.now))

pub returns-in_err-word-clause-value : goal.returns-in_err-word-clause-value
returns-in_err-word-clause-value c = IfOk-from_err _ _ c.from_residual.ensures.0

pub returns-in_err-word-clause-word : goal.returns-in_err-word-clause-word
returns-in_err-word-clause-word c = IfOk-from_err _ _ c.from_residual.ensures.0
