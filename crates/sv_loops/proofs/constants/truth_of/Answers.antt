use Rattle.std.proofs.Common.{◌∙◌, true, sym, ap, subst, Err}
use Rattle.fourvec.specs.Bits.{first, truth_of, is_known}
use Rattle.sv_meaning.specs.Deeds.{fixed_truth, is_taken}
use Rattle.sv_typing.proofs.Judged.{typed_ok}
use Rattle.sv_loops.specs.Answers.{Gives}
use Rattle.sv_outside.specs.declared.refusal.TextErr.TheVariants.{No}
use Rattle.sv_loops.proofs.Values.{truth_ok, truth_unknown}
use Rattle.sv_loops.proofs.constants.truth_of.Goals as goal

pub returns-then-is_bool : goal.returns-then-is_bool
returns-then-is_bool c = λ m s h.
    truth_ok m c.in_ok-x.x c.is_taken.result (typed_ok m (m.faults true) c.args.x c.in_ok-x.x c.in_ok-x.was h)
    (c.is_taken.ensures ∙ ap (λ v. is_taken (first (truth_of v))) c.own-value.ensures.is) (ap is_known (sym c.own-value.ensures.is) ∙ sym c.is_bool.ensures ∙ c.if-is_bool.true)

pub returns : goal.returns
returns c = λ m s h.
    subst (λ e. Gives (fixed_truth m) (Err (No e))) (sym c.refusal.ensures)
    (truth_unknown m c.in_ok-x.x c.args.start (typed_ok m (m.faults true) c.args.x c.in_ok-x.x c.in_ok-x.was h) s
    (ap is_known (sym c.own-value.ensures.is) ∙ sym c.is_bool.ensures ∙ c.if-is_bool.false))
