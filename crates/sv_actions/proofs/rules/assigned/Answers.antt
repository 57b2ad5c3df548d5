use Rattle.std.proofs.Common.{◌≤◌, false, subst, All}
use Rattle.std.specs.Result.{IfOk}
use Rattle.std.proofs.lemmas.Result.{err_from_is_err_and, IfOk-from_err}
use Rattle.sv_meaning.specs.Meanings.{free_faults}
use Rattle.sv_meaning.specs.Deeds.{assign}
use Rattle.sv_typing.proofs.Judged.{typed_ok, typed_err}
use Rattle.sv_targets.specs.Targets.{AreNarrow, width_of_all}
use Rattle.sv_targets.proofs.Targeting.{targets_ok, targets_err}
use Rattle.sv_actions.specs.declared.action.Action.TheVariants as act
use Rattle.sv_actions.proofs.Acting.{acted_assign, only_judged, assign_cause_targets, assign_cause_value}
use Rattle.sv_actions.specs.Doing.{IsAimed}
use Rattle.sv_actions.proofs.Aiming.{assign_aims}
use Rattle.sv_actions.proofs.rules.assigned.Goals as goal

pub returns-in_err-targets-clause-is : goal.returns-in_err-targets-clause-is
returns-in_err-targets-clause-is c = λ to why m h n s k.
    let p = err_from_is_err_and c.from_residual.result c.from_residual.ensures.1 in
    rw (p.1, p.2) (assign_cause_targets to why m c.args.made c.in_err-targets.field-0.0 (targets_err free_faults why to c.args.targets c.in_err-targets.field-0.0 c.in_err-targets.was h))

pub returns-in_err-value-clause-is : goal.returns-in_err-value-clause-is
returns-in_err-value-clause-is c = λ to why m h n s k.
    let p = err_from_is_err_and c.from_residual-in_err-value.result c.from_residual-in_err-value.ensures.1 in
    rw (p.1, p.2) (assign_cause_value to why m c.args.made c.in_err-value.field-0.0 (typed_err m (m.faults false) c.args.value c.in_err-value.field-0.0 c.in_err-value.was k))

pub returns-clause-is : goal.returns-clause-is
returns-clause-is c = λ to why m h n s k.
    let xs = c.in_ok-targets.targets in
    only_judged (assign to why m) c.args.made c.args.made (act.Assign xs c.in_ok-value.value) c.only.result c.only.ensures.is c.only.ensures.made c.only.ensures.err
    (λ z a b. acted_assign to why m xs c.in_ok-value.value c.args.made z (targets_ok free_faults why to c.args.targets xs c.in_ok-targets.was h) (typed_ok m (m.faults false) c.args.value c.in_ok-value.value c.in_ok-value.was k)
    (subst (λ r. IfOk r (λ all. 1 ≤ width_of_all all)) c.in_ok-targets.was s) (subst AreNarrow c.in_ok-targets.was n) a b)

pub returns-in_err-targets-clause-aims : goal.returns-in_err-targets-clause-aims
returns-in_err-targets-clause-aims c = λ named h. IfOk-from_err _ _ c.from_residual.ensures.0

pub returns-in_err-value-clause-aims : goal.returns-in_err-value-clause-aims
returns-in_err-value-clause-aims c = λ named h. IfOk-from_err _ _ c.from_residual-in_err-value.ensures.0

pub returns-clause-aims : goal.returns-clause-aims
returns-clause-aims c = λ named h.
    assign_aims named c.in_ok-targets.targets c.in_ok-value.value c.only.result c.only.ensures.is (subst (λ r. IfOk r (λ all. All (IsAimed named) all)) c.in_ok-targets.was h)
