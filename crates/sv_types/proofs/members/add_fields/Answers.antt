use Rattle.std.proofs.Common.{◌+◌, arith}
use Rattle.std.proofs.lemmas.Result.{err_from_is_err_and}
use Rattle.sv_types.proofs.Membership.{adds_go, adds_cause, adds_end, field_of_result, field_refused}
use Rattle.sv_types.proofs.members.add_fields.Goals as goal

pub returns-in_err-total : goal.returns-in_err-total
returns-in_err-total c =
    let p = err_from_is_err_and c.from_residual.result c.from_residual.ensures.1 in
    let e = c.in_err-total.field-0.0 in
    rw (p.1, p.2) (adds_cause c.args.layout.now c.args.words.now c.args.fields.now c.words.fields c.words.word-index c.words.total c.word-item.result e c.words-test.true c.word-item.is c.words.invariant
    (field_refused c.args.layout.now c.word-item.result c.words.fields c.add_field.new.fields c.add_field.result e c.in_err-total.was c.add_field.ensures))

pub words-preserved : goal.words-preserved
words-preserved c =
    adds_go c.args.layout.now c.args.words.now c.args.fields.now c.words.fields c.add_field.new.fields c.words.word-index (c.words.word-index + 1) c.words.total c.in_ok-total.total c.word-item.result c.words-test.true (omega arith) c.word-item.is
    c.words.invariant (field_of_result c.args.layout.now c.word-item.result c.words.fields c.add_field.new.fields c.add_field.result c.in_ok-total.total c.in_ok-total.was c.add_field.ensures)

pub returns : goal.returns
returns c = adds_end c.args.layout.now c.args.words.now c.args.fields.now c.words.fields c.words.word-index c.words.total c.words-test.false c.words.invariant
