use Rattle.std.proofs.Common.{suc, not, nat_abs}
use Rattle.std.proofs.lemmas.Result.{err_from_is_err_and}
use Rattle.sv_meaning.specs.Faults.{provided, fault_if, bad_width}
use Rattle.sv_meaning.specs.Params.{is_plain_range}
use Rattle.sv_types.proofs.Judging.{then_err}
use Rattle.sv_types.proofs.Ranging.{bounds_err}
use Rattle.sv_types.proofs.params.range_width.Goals as goal

pub returns-in_err-bounds : goal.returns-in_err-bounds
returns-in_err-bounds c = λ k h.
    let p = err_from_is_err_and c.from_residual.result c.from_residual.ensures.1 in
    let e = c.in_err-bounds.field-0.0 in
    rw (p.1, p.2) (then_err k (λ b. provided (fault_if (not (is_plain_range b)) bad_width c.args.place) (suc (nat_abs b.0))) e (bounds_err k c.args.bounds e c.in_err-bounds.was h))
