use Rattle.std.proofs.Common.{◌++◌, subst}
use Rattle.std.proofs.lemmas.Result.{err_from_is_err_and}
use Rattle.sv_typing.specs.Judging.{IsTyped, JudgesBoth}
use Rattle.sv_typing.proofs.Judged.{typed_ok}
use Rattle.sv_typing.proofs.Lists.{both_clear}
use Rattle.sv_typing.proofs.OfRules.{both_judged, third_cause}
use Rattle.sv_typing.proofs.rules.chosen_typed.Goals as goal

pub returns-in_err-condition : goal.returns-in_err-condition
returns-in_err-condition c = λ l m n d h i k.
    let p = err_from_is_err_and c.from_residual.result c.from_residual.ensures.1 in
    rw (p.1, p.2) (third_cause l m n d c.both_made.result c.args.y c.in_err-condition.field-0.0 c.in_err-condition.ensures.failed (both_judged l m d c.args.condition c.args.x c.both_made.result c.both_made.ensures.pair c.both_made.ensures.failed h i) k)

pub returns : goal.returns
returns c = λ l m n d h i k.
    let x : IsTyped l (l.faults d) c.in_ok-condition.condition × IsTyped m (m.faults d) c.in_ok-condition.x = subst (JudgesBoth l m d) c.in_ok-condition.ensures.pair.0 (both_judged l m d c.args.condition c.args.x c.both_made.result c.both_made.ensures.pair c.both_made.ensures.failed h i) in
    let y = typed_ok n (n.faults d) c.args.y c.in_ok-condition.y c.in_ok-condition.ensures.pair.1 k in
    record {
      clear = both_clear (l.faults d ++ m.faults d) (n.faults d) (both_clear (l.faults d) (m.faults d) x.0.clear x.1.clear) y.clear;
      stands = c.in_ok-chosen.ensures.stands l m n x.0.stands x.1.stands y.stands;
      sound = c.in_ok-chosen.ensures.sound x.0.sound x.1.sound y.sound;
    }
