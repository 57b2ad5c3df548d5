use Rattle.std.proofs.Common.{sym, subst}
use Rattle.std.specs.List.{Contains}
use Rattle.std.proofs.lemmas.Result.{err_from_is_err_and}
use Rattle.sv_outside.specs.declared.refusal.Place.{Place}
use Rattle.sv_meaning.specs.Faults.{bad_width}
use Rattle.sv_meaning.specs.Meanings.{sized_by}
use Rattle.sv_typing.proofs.Judged.{typed_ok, fixed_ok}
use Rattle.sv_typing.proofs.OfRules.{cast_cause}
use Rattle.sv_typing.proofs.Beside.{cast_wide}
use Rattle.sv_typing.proofs.sides.cast_typed.Goals as goal

pub returns-in_err-count-clause-judged : goal.returns-in_err-count-clause-judged
returns-in_err-count-clause-judged c = λ n m d s h k.
    let p = err_from_is_err_and c.from_residual.result c.from_residual.ensures.1 in
    rw (p.1, p.2) (cast_cause n m d c.args.count c.args.x c.in_err-count.field-0.0 c.in_err-count.ensures.failed h k)

pub returns-in-None-clause-judged : goal.returns-in-None-clause-judged
returns-in-None-clause-judged c = λ n m d s h k.
    let P : Place → Type 0 = λ q. Contains ((sized_by n m).faults d) (record { number = bad_width; place = q; count = 0 }) in
    subst (Contains ((sized_by n m).faults d)) (sym c.refusal.ensures)
    (subst P s (cast_wide n m c.in_ok-count.count d c.in_ok-count.x (fixed_ok n c.args.count c.in_ok-count.count c.in_ok-count.ensures.pair.0 h) (typed_ok m (m.faults d) c.args.x c.in_ok-count.x c.in_ok-count.ensures.pair.1 k) c.in-None.ensures))
