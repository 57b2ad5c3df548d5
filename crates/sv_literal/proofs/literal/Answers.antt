use Rattle.std.proofs.Common.{refl, sym, ◌∙◌}
use Rattle.std.proofs.lemmas.Result.{IfOk-weaker}
use Rattle.sv_literal.proofs.Parts.{not_both, none_wide, no_literal, fill_literal, based_literal, none_out, based_out, meaning_number, meaning_based, meaning_fill}
use Rattle.sv_literal.proofs.literal.Goals as goal

pub returns-else-is_fill-clause-value : goal.returns-else-is_fill-clause-value
returns-else-is_fill-clause-value c = tt

pub returns-else-is_fill-clause-shape : goal.returns-else-is_fill-clause-shape
returns-else-is_fill-clause-shape c = (λ e. no_literal c.args.text.now (sym c.is_number.ensures ∙ c.if-is_number.false) (sym c.is_based.ensures ∙ c.if-is_based.false) (sym c.is_fill.ensures ∙ c.if-is_fill.false), λ e. refl)

pub returns-else-is_fill-clause-wide : goal.returns-else-is_fill-clause-wide
returns-else-is_fill-clause-wide c = (λ e. cc, not_both _ (none_wide c.args.text.now (sym c.is_based.ensures ∙ c.if-is_based.false)))

pub returns-else-is_fill-clause-range : goal.returns-else-is_fill-clause-range
returns-else-is_fill-clause-range c = (λ e. cc, not_both _ (none_out c.args.text.now (sym c.is_number.ensures ∙ c.if-is_number.false) (sym c.is_based.ensures ∙ c.if-is_based.false)))

pub returns-then-is_fill-clause-shape : goal.returns-then-is_fill-clause-shape
returns-then-is_fill-clause-shape c = (λ e. cc, λ off. not_both _ off (fill_literal c.args.text.now (sym c.is_number.ensures ∙ c.if-is_number.false) (sym c.is_based.ensures ∙ c.if-is_based.false) (sym c.is_fill.ensures ∙ c.if-is_fill.true)))

pub returns-then-is_fill-clause-wide : goal.returns-then-is_fill-clause-wide
returns-then-is_fill-clause-wide c = (λ e. cc, not_both _ (none_wide c.args.text.now (sym c.is_based.ensures ∙ c.if-is_based.false)))

pub returns-then-is_fill-clause-range : goal.returns-then-is_fill-clause-range
returns-then-is_fill-clause-range c = (λ e. cc, not_both _ (none_out c.args.text.now (sym c.is_number.ensures ∙ c.if-is_number.false) (sym c.is_based.ensures ∙ c.if-is_based.false)))

pub returns-then-is_fill-clause-value : goal.returns-then-is_fill-clause-value
returns-then-is_fill-clause-value c = c.fill.ensures ∙ sym (meaning_fill c.args.text.now (sym c.is_number.ensures ∙ c.if-is_number.false) (sym c.is_based.ensures ∙ c.if-is_based.false))

pub returns-then-is_based-clause-shape : goal.returns-then-is_based-clause-shape
returns-then-is_based-clause-shape c = (λ e. absurd (c.based.ensures.shape e), λ off. not_both _ off (based_literal c.args.text.now (sym c.is_number.ensures ∙ c.if-is_number.false) (sym c.is_based.ensures ∙ c.if-is_based.true)))

pub returns-then-is_based-clause-wide : goal.returns-then-is_based-clause-wide
returns-then-is_based-clause-wide c = c.based.ensures.wide

pub returns-then-is_based-clause-range : goal.returns-then-is_based-clause-range
returns-then-is_based-clause-range c = rw (based_out c.args.text.now (sym c.is_number.ensures ∙ c.if-is_number.false)) c.based.ensures.range

pub returns-then-is_based-clause-value : goal.returns-then-is_based-clause-value
returns-then-is_based-clause-value c = IfOk-weaker c.based.result _ _ (λ l e. e ∙ sym (meaning_based c.args.text.now (sym c.is_number.ensures ∙ c.if-is_number.false) (sym c.is_based.ensures ∙ c.if-is_based.true))) c.based.ensures.value

pub returns-then-is_number-clause-value : goal.returns-then-is_number-clause-value
returns-then-is_number-clause-value c = IfOk-weaker c.number.result _ _ (λ l e. e ∙ sym (meaning_number c.args.text.now (sym c.is_number.ensures ∙ c.if-is_number.true))) c.number.ensures.value
