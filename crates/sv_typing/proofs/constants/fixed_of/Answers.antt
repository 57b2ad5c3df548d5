use Rattle.std.proofs.Common.{◌∙◌, true, sym, subst, ap}
use Rattle.std.specs.List.{Contains}
use Rattle.fourvec.specs.Bits.{is_known}
use Rattle.sv_meaning.specs.Meanings.{from, fixed_faults}
use Rattle.sv_names.specs.declared.layout.Known.{Known}
use Rattle.sv_typing.proofs.Judged.{typed_ok}
use Rattle.sv_typing.proofs.Fixing.{fixing_ok, unknown_cause}
use Rattle.sv_typing.proofs.constants.fixed_of.Goals as goal

pub returns-then-is_bool : goal.returns-then-is_bool
returns-then-is_bool c = λ m h.
    fixing_ok c.args.start m c.in_ok-x.x c.new.result (typed_ok m (m.faults true) c.args.x c.in_ok-x.x c.in_ok-x.was h)
    (ap (λ (k : Known). k.value) c.new.ensures.known ∙ c.own-value.ensures.is) (ap (λ (k : Known). k.signed) c.new.ensures.known) c.new.ensures.constant
    (ap is_known (sym c.own-value.ensures.is) ∙ sym c.is_bool.ensures ∙ c.if-is_bool.true)

pub returns-else-is_bool : goal.returns-else-is_bool
returns-else-is_bool c = λ m h.
    subst (Contains (fixed_faults (from c.args.start m))) (sym c.refusal.ensures)
    (unknown_cause c.args.start m c.in_ok-x.x (typed_ok m (m.faults true) c.args.x c.in_ok-x.x c.in_ok-x.was h) (ap is_known (sym c.own-value.ensures.is) ∙ sym c.is_bool.ensures ∙ c.if-is_bool.false))
