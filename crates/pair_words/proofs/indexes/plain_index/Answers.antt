use Rattle.std.proofs.lemmas.Result.{IfOk-from_err}
use Rattle.std.proofs.Common.{Bool, not, ◌&&◌, cond, List, sym, ap, ◌∙◌}
use Rattle.std.specs.Bool.{beq}
use Rattle.std.specs.Prelude.{unsigned_abs}
use Rattle.aig.specs.declared.gate.Lit.{Lit}
use Rattle.aig_words.specs.Words.{number}
use Rattle.aig_words.proofs.Numbers.{holds-zero}
use Rattle.fourvec.specs.Bits.{is_negative}
use Rattle.fourvec.specs.Bits as vectors
use Rattle.pair_words.specs.Truths.{truths}
use Rattle.pair_words.proofs.Truths.{number-truths}
use Rattle.pair_words.proofs.Starting.{flipped_is}
use Rattle.pair_words.proofs.indexes.plain_index.Goals as goal

pub returns-clause-back : goal.returns-clause-back
returns-clause-back c = λ v o.
    let at = c.args.at.now in
    let neg = c.args.spot.now.negate in
    let minus : Bool = is_negative (truths v at) in
    flipped_is v c.constant.result _ neg c.flipped.ensures ∙ ap (λ t. not (beq t neg)) (holds-zero v c.constant.result c.constant.ensures o.bottom) ∙ ap (λ s. not (beq (s && minus) neg)) (sym c.requires.plain)

pub returns-clause-far : goal.returns-clause-far
returns-clause-far c = λ v o.
    let at = c.args.at.now in
    ap (λ (xs : List Lit). number v xs) c.in_ok-far.ensures.items ∙ sym (number-truths v at) ∙
    ap (λ s. cond s (unsigned_abs (vectors.signed (truths v at))) (vectors.number (truths v at))) (sym c.requires.plain)

pub returns-in_err-far-clause-back : goal.returns-in_err-far-clause-back
returns-in_err-far-clause-back c = IfOk-from_err _ _ c.from_residual.ensures.0

pub returns-in_err-far-clause-back_in : goal.returns-in_err-far-clause-back_in
returns-in_err-far-clause-back_in c = IfOk-from_err _ _ c.from_residual.ensures.0

pub returns-in_err-far-clause-far : goal.returns-in_err-far-clause-far
returns-in_err-far-clause-far c = IfOk-from_err _ _ c.from_residual.ensures.0

pub returns-in_err-far-clause-word : goal.returns-in_err-far-clause-word
returns-in_err-far-clause-word c = IfOk-from_err _ _ c.from_residual.ensures.0

pub returns-in_err-far-clause-fine : goal.returns-in_err-far-clause-fine
returns-in_err-far-clause-fine c = IfOk-from_err _ _ c.from_residual.ensures.0
