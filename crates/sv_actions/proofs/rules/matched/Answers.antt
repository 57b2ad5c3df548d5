use Rattle.std.proofs.Common.{false, subst}
use Rattle.std.proofs.lemmas.Result.{err_from_is_err_and, IfOk-from_err}
use Rattle.sv_meaning.specs.Deeds.{case_of}
use Rattle.sv_typing.proofs.Judged.{typed_ok, typed_err}
use Rattle.sv_actions.specs.declared.action.Action.TheVariants as act
use Rattle.sv_actions.specs.Typing.{JudgesDeed}
use Rattle.sv_actions.specs.Listing.{arms_behind}
use Rattle.sv_actions.proofs.Acting.{only_judged, acted_ok, acted_err}
use Rattle.sv_actions.proofs.Casing.{acted_match, case_cause_value, case_cause_arms, case_cause_rest}
use Rattle.sv_actions.proofs.Producing.{arms_ok, arms_err}
use Rattle.sv_actions.proofs.Aiming.{match_aims, aims_of, arms_aim_of}
use Rattle.sv_actions.proofs.rules.matched.Goals as goal

pub returns-in_err-value-clause-is : goal.returns-in_err-value-clause-is
returns-in_err-value-clause-is c = λ m all d made h j k.
    let p = err_from_is_err_and c.from_residual.result c.from_residual.ensures.1 in
    rw (p.1, p.2) (case_cause_value c.args.masked m all d made c.in_err-value.field-0.0 (typed_err m (m.faults false) c.args.value c.in_err-value.field-0.0 c.in_err-value.was h))

pub returns-in_err-arms-clause-is : goal.returns-in_err-arms-clause-is
returns-in_err-arms-clause-is c = λ m all d made h j k.
    let p = err_from_is_err_and c.from_residual-in_err-arms.result c.from_residual-in_err-arms.ensures.1 in
    rw (p.1, p.2) (case_cause_arms c.args.masked m all d made c.in_err-arms.field-0.0 (arms_err all made c.args.arms c.in_err-arms.field-0.0 c.in_err-arms.was j))

pub returns-in_err-other-clause-is : goal.returns-in_err-other-clause-is
returns-in_err-other-clause-is c = λ m all d made h j k.
    let p = err_from_is_err_and c.from_residual-in_err-other.result c.from_residual-in_err-other.ensures.1 in
    let e = c.in_err-other.field-0.0 in
    let x = c.in_ok-arms.arms in
    let f = arms_ok all made c.args.arms x c.in_ok-arms.was j in
    let g = subst (λ r. JudgesDeed d (arms_behind r) c.args.other) c.in_ok-arms.was k in
    rw (p.1, p.2) (case_cause_rest c.args.masked m all d made x.made e f.turned f.made (acted_err d x.made c.args.other e c.in_err-other.was g))

pub returns-clause-is : goal.returns-clause-is
returns-clause-is c = λ m all d made h j k.
    let v = c.in_ok-value.value in
    let x = c.in_ok-arms.arms in
    let y = c.in_ok-other.other in
    let f = arms_ok all made c.args.arms x c.in_ok-arms.was j in
    let g = acted_ok d x.made c.args.other y c.in_ok-other.was (subst (λ r. JudgesDeed d (arms_behind r) c.args.other) c.in_ok-arms.was k) in
    only_judged (case_of c.args.masked m (all, d)) made y.made (act.Match (record { masked = c.args.masked; width = c.max-width.result; signed = c.both-signed.result; value = v }) x.arms y.actions) c.only.result c.only.ensures.is c.only.ensures.made c.only.ensures.err
    (λ z p q. acted_match c.args.masked c.max-width.result c.both-signed.result v m all d made x y z (typed_ok m (m.faults false) c.args.value v c.in_ok-value.was h) f g c.max-width.ensures c.both-signed.ensures p q)

pub returns-in_err-value-clause-aims : goal.returns-in_err-value-clause-aims
returns-in_err-value-clause-aims c = λ named h k. IfOk-from_err _ _ c.from_residual.ensures.0

pub returns-in_err-arms-clause-aims : goal.returns-in_err-arms-clause-aims
returns-in_err-arms-clause-aims c = λ named h k. IfOk-from_err _ _ c.from_residual-in_err-arms.ensures.0

pub returns-in_err-other-clause-aims : goal.returns-in_err-other-clause-aims
returns-in_err-other-clause-aims c = λ named h k. IfOk-from_err _ _ c.from_residual-in_err-other.ensures.0

pub returns-clause-aims : goal.returns-clause-aims
returns-clause-aims c = λ named h k.
    match_aims named (record { masked = c.args.masked; width = c.max-width.result; signed = c.both-signed.result; value = c.in_ok-value.value }) c.in_ok-arms.arms c.in_ok-other.other c.only.result c.only.ensures.is
    (arms_aim_of named c.args.arms c.in_ok-arms.arms c.in_ok-arms.was h) (aims_of named c.args.other c.in_ok-other.other c.in_ok-other.was k)
