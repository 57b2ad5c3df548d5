use Rattle.std.proofs.Common.{◌∙◌, true, sym, subst, ap}
use Rattle.std.specs.List.{Contains}
use Rattle.std.proofs.lemmas.Result.{err_from_is_err_and}
use Rattle.fourvec.specs.Bits.{is_known}
use Rattle.sv_meaning.specs.Meanings.{fixed_faults_at}
use Rattle.sv_typing.proofs.Judged.{typed_ok, typed_err}
use Rattle.sv_const.proofs.Valued.{constant_ok, constant_unknown, constant_cause}
use Rattle.sv_const.proofs.evaluate.constant_of.Goals as goal

pub returns-in_err-x : goal.returns-in_err-x
returns-in_err-x c = λ m s h.
    let p = err_from_is_err_and c.from_residual.result c.from_residual.ensures.1 in
    rw (p.1, p.2) (constant_cause c.args.width m c.in_err-x.field-0.0 (typed_err m (m.faults true) c.args.x c.in_err-x.field-0.0 c.in_err-x.was h))

pub returns-then-is_bool : goal.returns-then-is_bool
returns-then-is_bool c = λ m s h.
    constant_ok c.args.width m c.in_ok-x.x _ (typed_ok m (m.faults true) c.args.x c.in_ok-x.x c.in_ok-x.was h)
    c.known_at-known.ensures.value c.known_at-known.ensures.signed (sym c.is_bool.ensures ∙ c.if-is_bool.true)

pub returns-else-is_bool : goal.returns-else-is_bool
returns-else-is_bool c = λ m s h.
    subst (Contains (fixed_faults_at c.args.width m)) (sym c.refusal.ensures)
    (constant_unknown c.args.width m c.in_ok-x.x c.args.start (typed_ok m (m.faults true) c.args.x c.in_ok-x.x c.in_ok-x.was h) s
    (ap is_known (sym c.known_at-known.ensures.value) ∙ sym c.is_bool.ensures ∙ c.if-is_bool.false))
