use Rattle.std.proofs.Common.{◌+◌, ◌++◌, false, subst}
use Rattle.std.proofs.lemmas.Result.{err_from_is_err_and, IfOk-from_err}
use Rattle.sv_meaning.specs.Faults.{or_then}
use Rattle.sv_meaning.specs.Meanings.{free_faults}
use Rattle.sv_meaning.specs.Deeds.{if_else}
use Rattle.sv_typing.proofs.Judged.{typed_ok, typed_err}
use Rattle.sv_actions.specs.declared.action.Action.TheVariants as act
use Rattle.sv_actions.specs.Typing.{JudgesDeed}
use Rattle.sv_actions.specs.Listing.{made_behind}
use Rattle.sv_actions.proofs.Orders.{joint_first, joint_second, behind_more}
use Rattle.sv_actions.proofs.Acting.{acted_choose, only_judged, choose_cause, acted_ok, acted_err}
use Rattle.sv_actions.proofs.Aiming.{choose_aims, aims_of}
use Rattle.sv_actions.proofs.rules.chosen.Goals as goal

pub returns-in_err-condition-clause-is : goal.returns-in_err-condition-clause-is
returns-in_err-condition-clause-is c = λ m a b made h j k.
    let p = err_from_is_err_and c.from_residual.result c.from_residual.ensures.1 in
    rw (p.1, p.2) (choose_cause m a b made c.in_err-condition.field-0.0 (typed_err m (m.faults false) c.args.condition c.in_err-condition.field-0.0 c.in_err-condition.was h))

pub returns-in_err-first-clause-is : goal.returns-in_err-first-clause-is
returns-in_err-first-clause-is c = λ m a b made h j k.
    let p = err_from_is_err_and c.from_residual-in_err-first.result c.from_residual-in_err-first.ensures.1 in
    let e = c.in_err-first.field-0.0 in
    rw (p.1, p.2) (behind_more (free_faults m) (a.faults ++ b.faults) (or_then (a.overrun made) (b.overrun (made + a.turns))) e (joint_first a b made e (acted_err a made c.args.first e c.in_err-first.was j)))

pub returns-in_err-other-clause-is : goal.returns-in_err-other-clause-is
returns-in_err-other-clause-is c = λ m a b made h j k.
    let p = err_from_is_err_and c.from_residual-in_err-other.result c.from_residual-in_err-other.ensures.1 in
    let e = c.in_err-other.field-0.0 in
    let x = c.in_ok-first.first in
    let f = acted_ok a made c.args.first x c.in_ok-first.was j in
    let g = subst (λ r. JudgesDeed b (made_behind r) c.args.other) c.in_ok-first.was k in
    rw (p.1, p.2) (behind_more (free_faults m) (a.faults ++ b.faults) (or_then (a.overrun made) (b.overrun (made + a.turns))) e
    (joint_second a b made x.made e f.turned f.made (acted_err b x.made c.args.other e c.in_err-other.was g)))

pub returns-clause-is : goal.returns-clause-is
returns-clause-is c = λ m a b made h j k.
    let v = c.in_ok-condition.condition in
    let x = c.in_ok-first.first in
    let y = c.in_ok-other.other in
    let f = acted_ok a made c.args.first x c.in_ok-first.was j in
    let g = acted_ok b x.made c.args.other y c.in_ok-other.was (subst (λ r. JudgesDeed b (made_behind r) c.args.other) c.in_ok-first.was k) in
    only_judged (if_else m a b) made y.made (act.Choose v x.actions y.actions) c.only.result c.only.ensures.is c.only.ensures.made c.only.ensures.err
    (λ z p q. acted_choose m a b v made x y z (typed_ok m (m.faults false) c.args.condition v c.in_ok-condition.was h) f g p q)

pub returns-in_err-condition-clause-aims : goal.returns-in_err-condition-clause-aims
returns-in_err-condition-clause-aims c = λ named h k. IfOk-from_err _ _ c.from_residual.ensures.0

pub returns-in_err-first-clause-aims : goal.returns-in_err-first-clause-aims
returns-in_err-first-clause-aims c = λ named h k. IfOk-from_err _ _ c.from_residual-in_err-first.ensures.0

pub returns-in_err-other-clause-aims : goal.returns-in_err-other-clause-aims
returns-in_err-other-clause-aims c = λ named h k. IfOk-from_err _ _ c.from_residual-in_err-other.ensures.0

pub returns-clause-aims : goal.returns-clause-aims
returns-clause-aims c = λ named h k.
    choose_aims named c.in_ok-condition.condition c.in_ok-first.first c.in_ok-other.other c.only.result c.only.ensures.is (aims_of named c.args.first c.in_ok-first.first c.in_ok-first.was h) (aims_of named c.args.other c.in_ok-other.other c.in_ok-other.was k)
