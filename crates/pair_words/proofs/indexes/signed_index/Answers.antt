use Rattle.std.proofs.lemmas.Result.{IfOk-from_err}
use Rattle.std.proofs.Common.{◌-◌, Bool, false, not, ◌&&◌, cond, length, get_or, sym, ap, ◌∙◌}
use Rattle.std.specs.Bool.{beq}
use Rattle.std.specs.Prelude.{unsigned_abs}
use Rattle.aig.specs.declared.gate.Lit.{Lit}
use Rattle.aig.specs.Graph.{holds, constant_lit}
use Rattle.fourvec.specs.Bits.{is_negative}
use Rattle.fourvec.specs.Bits as vectors
use Rattle.pair_words.specs.Truths.{truths}
use Rattle.pair_words.proofs.Truths.{negative_is, magnitude_is}
use Rattle.pair_words.proofs.Starting.{flipped_is}
use Rattle.pair_words.proofs.Growing.{top_in}
use Rattle.pair_words.proofs.indexes.signed_index.Goals as goal

pub returns-clause-back : goal.returns-clause-back
returns-clause-back c = λ v o.
    let at = c.args.at.now in
    let neg = c.args.spot.now.negate in
    let minus : Bool = is_negative (truths v at) in
    let top : Lit = get_or at (length at - 1) (constant_lit false) in
    flipped_is v top _ neg c.flipped.ensures ∙ ap (λ t. not (beq t neg)) (sym (negative_is v at (constant_lit false) c.requires.some)) ∙ ap (λ s. not (beq (s && minus) neg)) (sym c.requires.signed)

pub returns-clause-far : goal.returns-clause-far
returns-clause-far c = λ v o.
    let at = c.args.at.now in
    let top : Lit = get_or at (length at - 1) (constant_lit false) in
    magnitude_is v at c.in_ok-far.far.items (holds v top) (negative_is v at (constant_lit false) c.requires.some) (c.in_ok-far.ensures.value v o) ∙
    ap (λ s. cond s (unsigned_abs (vectors.signed (truths v at))) (vectors.number (truths v at))) (sym c.requires.signed)

pub returns-in_err-far-clause-back : goal.returns-in_err-far-clause-back
returns-in_err-far-clause-back c = IfOk-from_err _ _ c.from_residual.ensures.0

pub returns-in_err-far-clause-back_in : goal.returns-in_err-far-clause-back_in
returns-in_err-far-clause-back_in c = IfOk-from_err _ _ c.from_residual.ensures.0

pub returns-in_err-far-clause-far : goal.returns-in_err-far-clause-far
returns-in_err-far-clause-far c = IfOk-from_err _ _ c.from_residual.ensures.0

pub returns-in_err-far-clause-word : goal.returns-in_err-far-clause-word
returns-in_err-far-clause-word c = IfOk-from_err _ _ c.from_residual.ensures.0

pub returns-in_err-far-clause-fine : goal.returns-in_err-far-clause-fine
returns-in_err-far-clause-fine c = IfOk-from_err _ _ c.from_residual.ensures.0

pub turned-requires-clause-some : goal.turned-requires-clause-some
turned-requires-clause-some c = c.requires.some

pub turned-requires-clause-a_in : goal.turned-requires-clause-a_in
turned-requires-clause-a_in c = c.requires.at_in

pub turned-requires-clause-c_in : goal.turned-requires-clause-c_in
turned-requires-clause-c_in c = top_in c.args.aig.now c.args.at.now (constant_lit false) c.requires.some c.requires.at_in

pub returns-clause-grew : goal.returns-clause-grew
returns-clause-grew c = c.in_ok-far.ensures.grew

pub returns-clause-word : goal.returns-clause-word
returns-clause-word c = c.in_ok-far.ensures.word

pub returns-in_err-far-clause-grew : goal.returns-in_err-far-clause-grew
returns-in_err-far-clause-grew c = c.in_err-far.ensures.grew
