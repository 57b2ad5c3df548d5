use Rattle.std.proofs.Common.{◌∙◌, ◌&&◌, sym, subst, ap, int_lt, pos}
use Rattle.std.specs.List.{Contains}
use Rattle.fourvec.specs.Bits.{is_known}
use Rattle.sv_outside.specs.declared.refusal.Place.{Place}
use Rattle.sv_meaning.specs.Meanings.{power, whole}
use Rattle.sv_meaning.specs.Faults.{not_constant}
use Rattle.sv_typing.proofs.OfRules.{power_free, power_below}
use Rattle.sv_typing.proofs.rules.exponent_bits.Goals as goal

pub returns-then-not-constant-clause-cause : goal.returns-then-not-constant-clause-cause
returns-then-not-constant-clause-cause c = λ m n d s h k.
    subst (Contains ((power c.args.place m n).faults d)) (sym c.refusal.ensures)
    (power_free c.args.place m n d c.args.x.now c.args.y.now h k (sym c.both_hold-constant.ensures ∙ c.if-not-constant.true))

pub returns-then-below-clause-cause : goal.returns-then-below-clause-cause
returns-then-below-clause-cause c = λ m n d s h k.
    let P : Place → Type 0 = λ q. Contains ((power c.args.place m n).faults d) (record { number = not_constant; place = q; count = 0 }) in
    subst (Contains ((power c.args.place m n).faults d)) (sym c.refusal-then-below.ensures)
    (subst P s (power_below c.args.place m n d c.args.x.now c.args.y.now h k (sym c.both_hold-constant.ensures ∙ c.if-not-constant.false)
    (ap (λ b. is_known b && int_lt (whole c.args.y.now.signed b) (pos 0)) (sym c.own-bits.ensures.is) ∙ sym c.is_below_zero-below.ensures ∙ c.if-below.true)))

pub returns-clause-is : goal.returns-clause-is
returns-clause-is c = record {
  is = c.own-bits.ensures.is;
  constant = sym c.both_hold-constant.ensures ∙ c.if-not-constant.false;
  natural = sym c.is_below_zero-below.ensures ∙ c.if-below.false;
}
