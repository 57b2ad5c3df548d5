use Rattle.std.proofs.lemmas.Result.{IfOk-from_err}
use Rattle.std.proofs.Common.{◌/◌, List, length, ap, ◌∙◌}
use Rattle.aig.proofs.Growth.{Obeys-older}
use Rattle.aig_words.proofs.Grown.{if_ok}
use Rattle.fourvec.specs.Bits.{over, xor_bit}
use Rattle.pair_words.specs.declared.pairs.Pair.{Pair}
use Rattle.pair_words.specs.Rails.{bit_at, bits}
use Rattle.pair_words.proofs.Parities.{behind_whole, parity_one, parity_both}
use Rattle.pair_words.proofs.vectors.+pair_parity.Goals as goal

pub returns-then-a-eq1-clause-value : goal.returns-then-a-eq1-clause-value
returns-then-a-eq1-clause-value t c = λ v o rest. parity_one v c.args.a.now _ rest c.if-a-eq1.true

pub returns-clause-value : goal.returns-clause-value
returns-clause-value t c = if_ok c.two_bits.result _ _ c.two_bits.ensures.value (λ p h v o rest.
    let o2 = Obeys-older v _ _ c.two_bits.ensures.grew.grows o in
    let o1 = Obeys-older v _ _ c.in_ok-second.ensures.grew.grows o2 in
    parity_both v c.args.a.now (length c.args.a.now / 2) (bit_at v c.in_ok-first.first) (bit_at v c.in_ok-second.second) (bit_at v p) rest
    (h v o) (λ r. c.in_ok-first.ensures.value v o1 r)
    (λ r. c.in_ok-second.ensures.value v o2 r ∙ ap (λ (xs : List Pair). over xor_bit r (bits v xs)) (behind_whole (length c.args.a.now / 2) c.args.a.now)))

pub returns-in_err-first-clause-value : goal.returns-in_err-first-clause-value
returns-in_err-first-clause-value t c = IfOk-from_err _ _ c.from_residual.ensures.0

pub returns-in_err-first-clause-within : goal.returns-in_err-first-clause-within
returns-in_err-first-clause-within t c = IfOk-from_err _ _ c.from_residual.ensures.0

pub returns-in_err-second-clause-value : goal.returns-in_err-second-clause-value
returns-in_err-second-clause-value t c = IfOk-from_err _ _ c.from_residual-in_err-second.ensures.0

pub returns-in_err-second-clause-within : goal.returns-in_err-second-clause-within
returns-in_err-second-clause-within t c = IfOk-from_err _ _ c.from_residual-in_err-second.ensures.0
