use Rattle.std.proofs.Common.{◌∙◌, ◌&&◌, sym, subst, ap, int_lt, pos}
use Rattle.std.proofs.lemmas.Result.{err_from_is_err_and}
use Rattle.fourvec.specs.Bits.{is_known}
use Rattle.sv_meaning.specs.Meanings.{whole}
use Rattle.sv_typed.specs.declared.tree.Typed.{Typed}
use Rattle.sv_typing.specs.Judging.{IsTyped}
use Rattle.sv_typing.proofs.OfRules.{power_cause, power_ok, exponent_ok}
use Rattle.sv_typing.proofs.rules.power_of.Goals as goal

pub returns-in_err-x : goal.returns-in_err-x
returns-in_err-x c = λ m n d s h k.
    let p = err_from_is_err_and c.from_residual.result c.from_residual.ensures.1 in
    rw (p.1, p.2) (power_cause c.args.place m n d c.exponent_bits-bits.result c.in_err-x.field-0.0 c.in_err-x.ensures.failed (c.exponent_bits-bits.ensures.cause m n d s h k))

pub returns : goal.returns
returns c = λ m n d s h k.
    let P : Typed → Type 0 = λ t. IsTyped m (m.faults d) t in
    let x : IsTyped m (m.faults d) c.in_ok-x.x = subst P (sym c.in_ok-x.ensures.pair.0) h in
    let e = exponent_ok c.args.x c.args.y.now c.exponent_bits-bits.result c.in_ok-x.bits c.in_ok-x.ensures.pair.1 c.exponent_bits-bits.ensures.is in
    power_ok c.args.place m n d c.args.x c.args.y.now c.in_ok-power.field-0 h k e.constant
    (ap (λ b. is_known b && int_lt (whole c.args.y.now.signed b) (pos 0)) (sym e.is) ∙ e.natural)
    (c.in_ok-power.ensures.stands m n c.args.place x.stands k.stands e.is) (c.in_ok-power.ensures.sound x.sound)
