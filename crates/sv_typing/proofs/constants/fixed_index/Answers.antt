use Rattle.std.proofs.Common.{◌∙◌, true, sym, subst, ap}
use Rattle.std.specs.List.{Contains}
use Rattle.fourvec.specs.Bits.{is_known}
use Rattle.sv_meaning.specs.Meanings.{fixed_faults}
use Rattle.sv_typing.proofs.Judged.{typed_ok}
use Rattle.sv_typing.proofs.Fixing.{index_unknown}
use Rattle.sv_typing.proofs.constants.fixed_index.Goals as goal

pub returns-else-is_bool : goal.returns-else-is_bool
returns-else-is_bool c = λ m e h.
    subst (Contains (fixed_faults m)) (sym c.refusal.ensures)
    (index_unknown c.args.start m c.in_ok-x.x e (typed_ok m (m.faults true) c.args.x c.in_ok-x.x c.in_ok-x.was h) (ap is_known (sym c.own.ensures.is) ∙ sym c.is_bool.ensures ∙ c.if-is_bool.false))
