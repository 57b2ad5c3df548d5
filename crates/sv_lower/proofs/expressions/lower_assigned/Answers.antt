use Rattle.std.proofs.lemmas.Result.{IfOk-from_err}
use Rattle.std.proofs.Common.{take, ap, ◌∙◌, arith}
use Rattle.sv_typed.specs.Typed.{worth}
use Rattle.sv_lower.specs.Lowering.{look_read}
use Rattle.sv_lower.proofs.Lowered.{fits_wide}
use Rattle.sv_lower.proofs.expressions.lower_assigned.Goals as goal

pub lower_in-requires-clause-fits : goal.lower_in-requires-clause-fits
lower_in-requires-clause-fits c = fits_wide _ c.args.width _ c.requires.sound c.requires.most c.max.ensures

pub sliced-requires-clause-within : goal.sliced-requires-clause-within
sliced-requires-clause-within c =
    let w = c.in_ok-whole.ensures.ok.width in
    let m = c.max.ensures in
    omega arith

pub returns-clause-value : goal.returns-clause-value
returns-clause-value c = λ bits.
    c.in_ok-part.ensures.ok.value bits
    ∙ ap (take c.args.width) (c.in_ok-whole.ensures.ok.value bits ∙ ap (λ w. worth c.args.typed.now (look_read c.args.look.now c.args.arena.now bits) w c.args.typed.now.signed) c.max.ensures)

pub returns-clause-mentions : goal.returns-clause-mentions
returns-clause-mentions c = λ p m. c.in_ok-part.ensures.ok.mentions p (c.in_ok-whole.ensures.ok.mentions p m)

pub returns-in_err-part-clause-mentions : goal.returns-in_err-part-clause-mentions
returns-in_err-part-clause-mentions c = IfOk-from_err _ _ c.from_residual-in_err-part.ensures.0

pub returns-in_err-part-clause-value : goal.returns-in_err-part-clause-value
returns-in_err-part-clause-value c = IfOk-from_err _ _ c.from_residual-in_err-part.ensures.0

pub returns-in_err-part-clause-width : goal.returns-in_err-part-clause-width
returns-in_err-part-clause-width c = IfOk-from_err _ _ c.from_residual-in_err-part.ensures.0

pub returns-in_err-part-clause-within : goal.returns-in_err-part-clause-within
returns-in_err-part-clause-within c = IfOk-from_err _ _ c.from_residual-in_err-part.ensures.0

pub returns-in_err-whole-clause-mentions : goal.returns-in_err-whole-clause-mentions
returns-in_err-whole-clause-mentions c = IfOk-from_err _ _ c.from_residual.ensures.0

pub returns-in_err-whole-clause-value : goal.returns-in_err-whole-clause-value
returns-in_err-whole-clause-value c = IfOk-from_err _ _ c.from_residual.ensures.0

pub returns-in_err-whole-clause-width : goal.returns-in_err-whole-clause-width
returns-in_err-whole-clause-width c = IfOk-from_err _ _ c.from_residual.ensures.0

pub returns-in_err-whole-clause-within : goal.returns-in_err-whole-clause-within
returns-in_err-whole-clause-within c = IfOk-from_err _ _ c.from_residual.ensures.0
