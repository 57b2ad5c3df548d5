use Rattle.std.proofs.Common.{false, refl, arith}
use Rattle.std.proofs.lemmas.Result.{err_from_is_err_and}
use Rattle.sv_meaning.specs.Values.{mean}
use Rattle.sv_names.specs.Names.{names_are}
use Rattle.sv_typing.proofs.Judged.{typed_ok, typed_err}
use Rattle.sv_actions.proofs.Casing.{labels_none, labels_next, labels_end, labels_cause}
use Rattle.sv_actions.proofs.labels.typed_labels.Goals as goal

pub labels-init : goal.labels-init
labels-init c = labels_none _ c.new-all.ensures refl refl

pub returns-in_err-label : goal.returns-in_err-label
returns-in_err-label c =
    let p = err_from_is_err_and c.from_residual.result c.from_residual.ensures.1 in
    let m = mean (names_are c.args.names.now) c.label-item.result in
    rw (p.1, p.2) (labels_cause (names_are c.args.names.now) c.args.labels.now c.labels.label-index c.label-item.result c.in_err-label.field-0.0 c.labels-test.true c.label-item.is
    (typed_err m (m.faults false) c.typed.result c.in_err-label.field-0.0 c.in_err-label.was c.typed.ensures))

pub labels-preserved : goal.labels-preserved
labels-preserved c =
    let m = mean (names_are c.args.names.now) c.label-item.result in
    labels_next (names_are c.args.names.now) c.args.labels.now c.labels.label-index c.label-item.result (record { all = c.labels.all; width = c.labels.width; signed = c.labels.signed }) _ c.in_ok-label.label c.labels-test.true c.label-item.is
    c.labels.invariant (typed_ok m (m.faults false) c.typed.result c.in_ok-label.label c.in_ok-label.was c.typed.ensures) c.in_ok-push.ensures.ok c.max-width.ensures c.both-signed.ensures

pub returns : goal.returns
returns c = labels_end (names_are c.args.names.now) c.args.labels.now c.labels.label-index _ (omega arith) c.labels.invariant
