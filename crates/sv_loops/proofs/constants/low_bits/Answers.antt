use Rattle.std.proofs.lemmas.Result.{IfOk-from_err}
use Rattle.std.proofs.Common.{◌∙◌, true, length, take, sym, ap, subst, Err, arith}
use Rattle.fourvec.proofs.Widths.{length-slice_of}
use Rattle.sv_meaning.specs.Meanings.{nowhere}
use Rattle.sv_meaning.specs.Deeds.{index_value}
use Rattle.sv_typed.specs.Typed.{worth}
use Rattle.sv_typing.proofs.Judged.{typed_ok}
use Rattle.sv_loops.specs.Answers.{Gives}
use Rattle.sv_outside.specs.declared.refusal.TextErr.TheVariants.{No}
use Rattle.sv_loops.proofs.Values.{index_ok, index_unknown}
use Rattle.sv_loops.proofs.constants.low_bits.Goals as goal

pub returns-then-is_bool-clause-is : goal.returns-then-is_bool-clause-is
returns-then-is_bool-clause-is c = λ m s h.
    index_ok m c.in_ok-x.x c.slice-bits.result (typed_ok m (m.faults true) c.args.x c.in_ok-x.x c.in_ok-x.was h)
    (c.slice-bits.ensures ∙ ap (take 32) (c.value.ensures.is ∙ ap (λ n. worth c.in_ok-x.x nowhere n c.in_ok-x.x.signed) c.max.ensures)) (sym c.is_bool.ensures ∙ c.if-is_bool.true)

pub returns-then-is_bool-clause-width : goal.returns-then-is_bool-clause-width
returns-then-is_bool-clause-width c = ap length c.slice-bits.ensures ∙ length-slice_of c.value.result 0 32 (omega (arith, c.value.ensures.width, c.max.ensures))

pub returns-clause-is : goal.returns-clause-is
returns-clause-is c = λ m s h.
    subst (λ e. Gives (index_value m) (Err (No e))) (sym c.refusal.ensures)
    (index_unknown m c.in_ok-x.x c.slice-bits.result c.args.start (typed_ok m (m.faults true) c.args.x c.in_ok-x.x c.in_ok-x.was h) s
    (c.slice-bits.ensures ∙ ap (take 32) (c.value.ensures.is ∙ ap (λ n. worth c.in_ok-x.x nowhere n c.in_ok-x.x.signed) c.max.ensures)) (sym c.is_bool.ensures ∙ c.if-is_bool.false))

pub returns-in_err-x-clause-width : goal.returns-in_err-x-clause-width
returns-in_err-x-clause-width c = IfOk-from_err _ _ c.from_residual.ensures.0
