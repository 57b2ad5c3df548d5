use Rattle.std.proofs.lemmas.Result.{IfOk-from_err}
use Rattle.std.proofs.Common.{◌*◌, length, ap, ◌∙◌}
use Rattle.aig_words.proofs.Grown.{Grew-wider}
use Rattle.fourvec.specs.declared.Bit.{Bit}
use Rattle.fourvec.specs.Bits.{choose}
use Rattle.pair_words.specs.Rails.{bits, two_value, two_nodes}
use Rattle.svex_blast.proofs.Noding.{first_is}
use Rattle.svex_blast.proofs.Fitting.{two_most, choice_fits}
use Rattle.svex_blast.proofs.operators.choice.Goals as goal

pub returns-clause-grew : goal.returns-clause-grew
returns-clause-grew c = λ n la. Grew-wider _ (256 * n * n) _ _ (choice_fits (two_nodes c.args.op) (length c.args.a.now) n (two_most c.args.op) c.requires.some la) c.in_ok-word.ensures.grew

pub returns-in_err-word-clause-grew : goal.returns-in_err-word-clause-grew
returns-in_err-word-clause-grew c = λ n la. Grew-wider _ (256 * n * n) _ _ (choice_fits (two_nodes c.args.op) (length c.args.a.now) n (two_most c.args.op) c.requires.some la) c.in_err-word.ensures.grew

pub returns-clause-value : goal.returns-clause-value
returns-clause-value c = λ v o.
    c.in_ok-word.ensures.value v o ∙ ap (λ (t : Bit). choose (two_value c.args.op) t (bits v c.args.a.now) (bits v c.args.b.now)) (first_is v c.args.c.now _ c.requires.one)

pub returns-in_err-word-clause-value : goal.returns-in_err-word-clause-value
returns-in_err-word-clause-value c = IfOk-from_err _ _ c.from_residual.ensures.0

pub returns-in_err-word-clause-word : goal.returns-in_err-word-clause-word
returns-in_err-word-clause-word c = IfOk-from_err _ _ c.from_residual.ensures.0
