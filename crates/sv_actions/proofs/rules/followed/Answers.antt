use Rattle.std.proofs.Common.{refl, subst, sym, All}
use Rattle.std.proofs.lemmas.List.Elements.{All-append}
use Rattle.std.proofs.lemmas.Result.{err_from_is_err_and, IfOk-from_err}
use Rattle.sv_actions.proofs.Acting.{acted_after, acted_ok, acted_err}
use Rattle.sv_actions.proofs.Orders.{joint_second}
use Rattle.sv_actions.specs.Doing.{Aims}
use Rattle.sv_actions.proofs.Aiming.{aims_of}
use Rattle.sv_actions.proofs.rules.followed.Goals as goal

pub returns-in_err-next-clause-is : goal.returns-in_err-next-clause-is
returns-in_err-next-clause-is c = λ a b made h k.
    let p = err_from_is_err_and c.from_residual.result c.from_residual.ensures.1 in
    rw (p.1, p.2) (joint_second a b made c.args.first.made c.in_err-next.field-0.0 h.turned h.made (acted_err b c.args.first.made c.args.next c.in_err-next.field-0.0 c.in_err-next.was k))

pub returns-clause-is : goal.returns-clause-is
returns-clause-is c = λ a b made h k. acted_after a b made c.args.first c.in_ok-next.next _ h (acted_ok b c.args.first.made c.args.next c.in_ok-next.next c.in_ok-next.was k) c.in_ok-append.ensures.ok refl

pub returns-in_err-next-clause-aims : goal.returns-in_err-next-clause-aims
returns-in_err-next-clause-aims c = λ named h k. IfOk-from_err _ _ c.from_residual.ensures.0

pub returns-clause-aims : goal.returns-clause-aims
returns-clause-aims c = λ named h k.
    subst (All (Aims named)) (sym c.in_ok-append.ensures.ok) (All-append (Aims named) c.args.first.actions c.in_ok-next.next.actions h (aims_of named c.args.next c.in_ok-next.next c.in_ok-next.was k))

pub returns-in_err-append-clause-aims : goal.returns-in_err-append-clause-aims
returns-in_err-append-clause-aims c = λ named h k. IfOk-from_err _ _ c.from_residual-in_err-append.ensures.0
