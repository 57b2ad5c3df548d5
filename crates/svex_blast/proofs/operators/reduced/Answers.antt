use Rattle.std.proofs.lemmas.Result.{IfOk-from_err}
use Rattle.std.proofs.Common.{ℕ, ◌*◌, List, [], ◌∷◌, length, ap, sym, subst, ◌∙◌, arith}
use Rattle.fourvec.specs.declared.Bit.{Bit}
use Rattle.fourvec.specs.Bits.{over}
use Rattle.pair_words.specs.declared.pairs.Pair.{Pair}
use Rattle.pair_words.specs.Rails.{bit_at, bits, IsWired, two_value}
use Rattle.pair_words.proofs.Moving.{constant_is, constant_wired}
use Rattle.aig_words.proofs.Grown.{Grew-wider}
use Rattle.pair_words.specs.Rails.{two_nodes}
use Rattle.svex_blast.proofs.Fitting.{two_most, pairs_fit}
use Rattle.svex_blast.proofs.operators.reduced.Goals as goal

pub over_all-requires-clause-start_in : goal.over_all-requires-clause-start_in
over_all-requires-clause-start_in c = subst (IsWired c.args.aig.now) (sym c.constant.ensures) (constant_wired c.args.aig.now c.args.start c.requires.node)

pub returns-clause-value : goal.returns-clause-value
returns-clause-value c = λ v o.
    let f = two_value c.args.op in
    ap (λ (t : List Pair). bits v t) c.in_ok-word.ensures ∙ ap (λ (t : Bit). t ∷ []) (c.in_ok-bit.ensures.value v o ∙
    ap (λ (t : Bit). over f t (bits v c.args.a.now)) (ap (λ (p : Pair). bit_at v p) c.constant.ensures ∙ constant_is v c.args.start o.bottom))

pub returns-clause-grew : goal.returns-clause-grew
returns-clause-grew c = let w : ℕ = length c.args.a.now in Grew-wider _ (256 * w * w) _ _ (pairs_fit (two_nodes c.args.op) w w (two_most c.args.op) c.requires.some (omega arith)) c.in_ok-bit.ensures.grew

pub returns-in_err-word-clause-grew : goal.returns-in_err-word-clause-grew
returns-in_err-word-clause-grew c = let w : ℕ = length c.args.a.now in Grew-wider _ (256 * w * w) _ _ (pairs_fit (two_nodes c.args.op) w w (two_most c.args.op) c.requires.some (omega arith)) c.in_ok-bit.ensures.grew

pub returns-in_err-bit-clause-grew : goal.returns-in_err-bit-clause-grew
returns-in_err-bit-clause-grew c = let w : ℕ = length c.args.a.now in Grew-wider _ (256 * w * w) _ _ (pairs_fit (two_nodes c.args.op) w w (two_most c.args.op) c.requires.some (omega arith)) c.in_err-bit.ensures.grew

pub returns-in_err-bit-clause-value : goal.returns-in_err-bit-clause-value
returns-in_err-bit-clause-value c = IfOk-from_err _ _ c.from_residual.ensures.0

pub returns-in_err-bit-clause-word : goal.returns-in_err-bit-clause-word
returns-in_err-bit-clause-word c = IfOk-from_err _ _ c.from_residual.ensures.0

pub returns-in_err-word-clause-value : goal.returns-in_err-word-clause-value
returns-in_err-word-clause-value c = IfOk-from_err _ _ c.from_residual-in_err-word.ensures.0

pub returns-in_err-word-clause-word : goal.returns-in_err-word-clause-word
returns-in_err-word-clause-word c = IfOk-from_err _ _ c.from_residual-in_err-word.ensures.0
