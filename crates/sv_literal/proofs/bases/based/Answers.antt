use Rattle.std.proofs.Common.{List, ℕ, ap, drop, ◌∙◌}
use Rattle.std.proofs.lemmas.Result.{IfOk-from_err, err_from_is_err_and}
use Rattle.sv_outside.specs.Literals.{without_sign}
use Rattle.sv_literal.proofs.Parts.{based_wide, based_large, based_parts, same_refusal, no_refusal}
use Rattle.sv_literal.proofs.bases.based.Goals as goal

pub returns-in_err-width-clause-value : goal.returns-in_err-width-clause-value
returns-in_err-width-clause-value c = IfOk-from_err _ _ c.from_residual.ensures.0

pub returns-in_err-width-clause-wide : goal.returns-in_err-width-clause-wide
returns-in_err-width-clause-wide c =
    let p = err_from_is_err_and c.from_residual.result c.from_residual.ensures.1 in
    rw (based_wide c.args.text.now _ c.requires c.split_size.ensures.size, p.1, p.2)
    (same_refusal _ c.in_err-width.ensures.wide)

pub returns-in_err-width-clause-range : goal.returns-in_err-width-clause-range
returns-in_err-width-clause-range c =
    let p = err_from_is_err_and c.from_residual.result c.from_residual.ensures.1 in
    let suffix = c.behind_first-suffix.ensures ∙ ap (λ (t : List ℕ). drop 1 t) c.split_size.ensures.behind in
    let value = c.without_sign-value.ensures ∙ ap without_sign suffix in
    rw (based_large c.args.text.now _ _ c.requires c.split_size.ensures.size value, p.1, p.2)
    (same_refusal _ c.in_err-width.ensures.range)

pub returns-in_err-width-clause-shape : goal.returns-in_err-width-clause-shape
returns-in_err-width-clause-shape c =
    let p = err_from_is_err_and c.from_residual.result c.from_residual.ensures.1 in
    rw (p.1, p.2) (λ e. c.in_err-width.ensures.shape (let told = e in cc))

pub returns-clause-shape : goal.returns-clause-shape
returns-clause-shape c = λ e. cc

pub returns-clause-wide : goal.returns-clause-wide
returns-clause-wide c =
    rw (based_wide c.args.text.now _ c.requires c.split_size.ensures.size) (no_refusal _ _ c.in_ok-width.ensures.wide)

pub returns-clause-range : goal.returns-clause-range
returns-clause-range c =
    let suffix = c.behind_first-suffix.ensures ∙ ap (λ (t : List ℕ). drop 1 t) c.split_size.ensures.behind in
    let value = c.without_sign-value.ensures ∙ ap without_sign suffix in
    rw (based_large c.args.text.now _ _ c.requires c.split_size.ensures.size value) (no_refusal _ _ c.in_ok-width.ensures.range)

pub returns-clause-value : goal.returns-clause-value
returns-clause-value c =
    let suffix = c.behind_first-suffix.ensures ∙ ap (λ (t : List ℕ). drop 1 t) c.split_size.ensures.behind in
    let value = c.without_sign-value.ensures ∙ ap without_sign suffix in
    based_parts c.args.text.now _ _ _ _ _ _ _ c.split_size.ensures.size suffix value c.in_ok-width.ensures.width c.vector_of.ensures c.is_empty.ensures c.has_sign.ensures
