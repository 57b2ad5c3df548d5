use Rattle.std.proofs.Common.{refl, subst, sym, All}
use Rattle.std.proofs.lemmas.List.Elements.{All-push}
use Rattle.std.proofs.lemmas.Result.{err_from_is_err_and, IfOk-from_err}
use Rattle.sv_actions.proofs.Acting.{acted_ok, acted_err}
use Rattle.sv_actions.proofs.Casing.{labels_ok, labels_err, arms_push, arms_cause_labels, arms_cause_body}
use Rattle.sv_actions.specs.Listing.{ArmAims}
use Rattle.sv_actions.proofs.Aiming.{aims_of}
use Rattle.sv_actions.proofs.arms.with_arm.Goals as goal

pub returns-in_err-labels-clause-is : goal.returns-in_err-labels-clause-is
returns-in_err-labels-clause-is c = λ arms ms d made h k j.
    let p = err_from_is_err_and c.from_residual.result c.from_residual.ensures.1 in
    rw (p.1, p.2) (arms_cause_labels arms ms d made c.in_err-labels.field-0.0 (labels_err ms c.args.labels c.in_err-labels.field-0.0 c.in_err-labels.was k))

pub returns-in_err-body-clause-is : goal.returns-in_err-body-clause-is
returns-in_err-body-clause-is c = λ arms ms d made h k j.
    let p = err_from_is_err_and c.from_residual-in_err-body.result c.from_residual-in_err-body.ensures.1 in
    rw (p.1, p.2) (arms_cause_body arms ms d made c.args.all c.in_err-body.field-0.0 h (acted_err d c.args.all.made c.args.body c.in_err-body.field-0.0 c.in_err-body.was j))

pub returns-clause-is : goal.returns-clause-is
returns-clause-is c = λ arms ms d made h k j.
    arms_push arms ms d made c.args.all _ c.in_ok-labels.labels c.in_ok-body.body (record { labels = c.in_ok-labels.labels.all; body = c.in_ok-body.body.actions }) h
    (labels_ok ms c.args.labels c.in_ok-labels.labels c.in_ok-labels.was k) (acted_ok d c.args.all.made c.args.body c.in_ok-body.body c.in_ok-body.was j) refl refl c.in_ok-push.ensures.ok c.max.ensures c.both.ensures refl

pub returns-in_err-labels-clause-aim : goal.returns-in_err-labels-clause-aim
returns-in_err-labels-clause-aim c = λ named h k. IfOk-from_err _ _ c.from_residual.ensures.0

pub returns-in_err-body-clause-aim : goal.returns-in_err-body-clause-aim
returns-in_err-body-clause-aim c = λ named h k. IfOk-from_err _ _ c.from_residual-in_err-body.ensures.0

pub returns-in_err-push-clause-aim : goal.returns-in_err-push-clause-aim
returns-in_err-push-clause-aim c = λ named h k. IfOk-from_err _ _ c.from_residual-in_err-push.ensures.0

pub returns-clause-aim : goal.returns-clause-aim
returns-clause-aim c = λ named h k.
    subst (All (ArmAims named)) (sym c.in_ok-push.ensures.ok)
    (All-push (ArmAims named) c.args.all.arms (record { labels = c.in_ok-labels.labels.all; body = c.in_ok-body.body.actions }) h (aims_of named c.args.body c.in_ok-body.body c.in_ok-body.was k))
