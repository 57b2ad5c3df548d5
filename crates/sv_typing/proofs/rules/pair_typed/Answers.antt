use Rattle.std.proofs.Common.{◌∙◌}
use Rattle.std.proofs.lemmas.Result.{err_from_is_err_and}
use Rattle.sv_typing.proofs.Judged.{typed_ok}
use Rattle.sv_typing.proofs.Lists.{both_clear}
use Rattle.sv_typing.proofs.OfRules.{pair_faults, pair_cause, both_cause}
use Rattle.sv_typing.proofs.rules.pair_typed.Goals as goal

pub returns-in_err-x : goal.returns-in_err-x
returns-in_err-x c = λ m n d h k.
    let p = err_from_is_err_and c.from_residual.result c.from_residual.ensures.1 in
    rw (p.1, p.2) (pair_cause c.args.op m n d c.in_err-x.field-0.0 (both_cause m n d c.args.x c.args.y c.in_err-x.field-0.0 c.in_err-x.ensures.failed h k))

pub returns : goal.returns
returns c = λ m n d h k.
    let x = typed_ok m (m.faults d) c.args.x c.in_ok-x.x c.in_ok-x.ensures.pair.0 h in
    let y = typed_ok n (n.faults d) c.args.y c.in_ok-x.y c.in_ok-x.ensures.pair.1 k in
    record {
      clear = pair_faults c.args.op m n d ∙ both_clear (m.faults d) (n.faults d) x.clear y.clear;
      stands = c.in_ok-pair.ensures.stands m n x.stands y.stands;
      sound = c.in_ok-pair.ensures.sound x.sound y.sound;
    }
