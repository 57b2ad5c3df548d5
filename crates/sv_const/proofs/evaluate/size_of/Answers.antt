use Rattle.std.proofs.Common.{refl, false}
use Rattle.std.proofs.lemmas.Result.{err_from_is_err_and}
use Rattle.sv_typing.proofs.Judged.{typed_ok, typed_err}
use Rattle.sv_const.proofs.Valued.{size_ok}
use Rattle.sv_const.proofs.evaluate.size_of.Goals as goal

pub returns-in_err-x : goal.returns-in_err-x
returns-in_err-x c = λ m h.
    let p = err_from_is_err_and c.from_residual.result c.from_residual.ensures.1 in
    rw (p.1, p.2) (typed_err m (m.faults false) c.args.x c.in_err-x.field-0.0 c.in_err-x.was h)

pub returns : goal.returns
returns c = λ m h. size_ok m c.in_ok-x.x _ (typed_ok m (m.faults false) c.args.x c.in_ok-x.x c.in_ok-x.was h) refl refl
