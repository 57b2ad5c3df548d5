use Rattle.std.proofs.Common.{true, [], Some}
use Rattle.std.proofs.lemmas.Result.{err_from_is_err_and}
use Rattle.sv_meaning.specs.Layouts.{number_is}
use Rattle.sv_meaning.specs.Meanings.{named}
use Rattle.sv_typing.proofs.Judged.{typed_ok, typed_err}
use Rattle.sv_loops.proofs.Moves.{moved_ok, moved_cause}
use Rattle.sv_loops.proofs.steps.moved.Goals as goal

pub returns-in_err-x : goal.returns-in_err-x
returns-in_err-x c = λ m word h.
    let p = err_from_is_err_and c.from_residual.result c.from_residual.ensures.1 in
    rw (p.1, p.2) (moved_cause c.args.op word c.args.bits.now m c.in_err-x.field-0.0 (typed_err m (m.faults true) c.args.x c.in_err-x.field-0.0 c.in_err-x.was h))

pub returns : goal.returns
returns c = λ m word h.
    let v = c.variable.ensures word in
    let t = typed_ok m (m.faults true) c.args.x c.in_ok-x.x c.in_ok-x.was h in
    moved_ok c.args.op word c.args.bits.now m c.variable.result c.in_ok-x.x c.in_ok-computed.field-0 v t
    (c.in_ok-computed.ensures.stands (named word (Some (number_is c.args.bits.now true)) []) m v.stands t.stands) (c.in_ok-computed.ensures.sound v.sound t.sound)
