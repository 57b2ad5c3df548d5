use Rattle.std.proofs.lemmas.Result.{IfOk-from_err}
use Rattle.std.proofs.Common.{sym, subst, arith, refl, pow_pos}
use Rattle.refute_check.specs.Accepted.{IsAccepted}
use Rattle.choice_inputs.specs.Tables.{all_ruled_out}
use Rattle.svtv_choices.proofs.Numbers.{one_shifted}
use Rattle.choice_inputs.proofs.Resolving.{accepted_end}
use Rattle.choice_inputs.proofs.tables.refutation.Goals as goal

pub returns : goal.returns
returns c =
    subst (IsAccepted (all_ruled_out c.args.bits)) (sym c.in_ok-put_last.ensures) (accepted_end c.args.bits _ c.in_ok-steps.steps.items _ (c.in_ok-steps.ensures _ (omega (arith, one_shifted c.args.bits (omega (arith, c.requires)), pow_pos c.args.bits, c.len.ensures))) refl)

pub returns-in_err-put_last : goal.returns-in_err-put_last
returns-in_err-put_last c = IfOk-from_err _ _ c.from_residual-in_err-put_last.ensures.0

pub returns-in_err-steps : goal.returns-in_err-steps
returns-in_err-steps c = IfOk-from_err _ _ c.from_residual.ensures.0
