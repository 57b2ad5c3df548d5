use Rattle.std.proofs.lemmas.Result.{IfOk-from_err}
use Rattle.std.proofs.Common.{◌*◌, cond, length, ap, sym, ◌∙◌}
use Rattle.aig_words.proofs.Grown.{Grew-wider}
use Rattle.std.proofs.lemmas.List.{length-map}
use Rattle.fourvec.specs.Bits.{is_known, number, moved_up, all_x}
use Rattle.pair_words.specs.Rails.{bit_at, bits}
use Rattle.svex_blast.proofs.Noding.{up_is}
use Rattle.svex_blast.proofs.Fitting.{shift_fits}
use Rattle.svex_blast.proofs.operators.up.Goals as goal

pub returns-clause-grew : goal.returns-clause-grew
returns-clause-grew c = λ n la lb. Grew-wider _ (256 * n * n) _ _ (shift_fits (length c.args.a.now) (length c.args.b.now) n c.requires.some la lb) c.in_ok-word.ensures.grew

pub returns-in_err-word-clause-grew : goal.returns-in_err-word-clause-grew
returns-in_err-word-clause-grew c = λ n la lb. Grew-wider _ (256 * n * n) _ _ (shift_fits (length c.args.a.now) (length c.args.b.now) n c.requires.some la lb) c.in_err-word.ensures.grew

pub returns-clause-value : goal.returns-clause-value
returns-clause-value c = λ v o.
    let a = c.args.a.now in
    let b = c.args.b.now in
    c.in_ok-word.ensures.value v o ∙ ap (λ n. cond (is_known (bits v b)) (moved_up (number (bits v b)) (bits v a)) (all_x n)) (sym (length-map a (bit_at v))) ∙ up_is (bits v a) (bits v b)

pub returns-in_err-word-clause-value : goal.returns-in_err-word-clause-value
returns-in_err-word-clause-value c = IfOk-from_err _ _ c.from_residual.ensures.0

pub returns-in_err-word-clause-word : goal.returns-in_err-word-clause-word
returns-in_err-word-clause-word c = IfOk-from_err _ _ c.from_residual.ensures.0
