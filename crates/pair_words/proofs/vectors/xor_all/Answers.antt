use Rattle.std.proofs.lemmas.Result.{IfOk-from_err}
use Rattle.std.proofs.Common.{eqb-true, sym, ◌∙◌}
use Rattle.aig.proofs.Growth.{Obeys-older}
use Rattle.aig_words.proofs.Grown.{if_ok}
use Rattle.pair_words.specs.Rails.{bit_at}
use Rattle.pair_words.proofs.Parities.{parity_none}
use Rattle.pair_words.proofs.vectors.xor_all.Goals as goal

pub returns-then-is_empty-clause-value : goal.returns-then-is_empty-clause-value
returns-then-is_empty-clause-value c = λ v o. parity_none v c.args.a.now (bit_at v c.args.start) (eqb-true _ _ (sym c.is_empty.ensures ∙ c.if-is_empty.true))

pub returns-clause-value : goal.returns-clause-value
returns-clause-value c = if_ok c.two_bits.result _ _ c.two_bits.ensures.value (λ p h v o. h v o ∙ c.in_ok-all.ensures.value v (Obeys-older v _ _ c.two_bits.ensures.grew.grows o) (bit_at v c.args.start))

pub returns-in_err-all-clause-value : goal.returns-in_err-all-clause-value
returns-in_err-all-clause-value c = IfOk-from_err _ _ c.from_residual.ensures.0

pub returns-in_err-all-clause-within : goal.returns-in_err-all-clause-within
returns-in_err-all-clause-within c = IfOk-from_err _ _ c.from_residual.ensures.0
