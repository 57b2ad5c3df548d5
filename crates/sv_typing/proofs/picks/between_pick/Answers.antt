use Rattle.std.proofs.Common.{sym, subst}
use Rattle.std.proofs.lemmas.Result.{err_from_is_err_and}
use Rattle.std.specs.List.{Contains}
use Rattle.sv_tree.specs.declared.exprs.RangeMark.TheVariants as mark
use Rattle.sv_meaning.specs.Layouts.{is_signed}
use Rattle.sv_meaning.specs.Meanings.{to_range, step_faults, fixed_faults}
use Rattle.sv_names.specs.Cursors.{cursor_is}
use Rattle.sv_typing.proofs.Judged.{fixed_ok, fixed_err, cause_from}
use Rattle.sv_typing.proofs.Spans.{between_left, between_right, no_row_between}
use Rattle.sv_typing.proofs.picks.between_pick.Goals as goal

pub returns-in_err-left : goal.returns-in_err-left
returns-in_err-left c = λ j m n h k.
    let p = err_from_is_err_and c.from_residual.result c.from_residual.ensures.1 in
    rw (p.1, p.2)
    (cause_from (fixed_faults m) (step_faults j (cursor_is c.args.at) (to_range c.args.place m mark.To n)) (between_left j (cursor_is c.args.at) c.args.place m n)
    c.in_err-left.field-0.0 (fixed_err m c.args.left c.in_err-left.field-0.0 c.in_err-left.was h))

pub returns-in_err-right : goal.returns-in_err-right
returns-in_err-right c = λ j m n h k.
    let p = err_from_is_err_and c.from_residual-in_err-right.result c.from_residual-in_err-right.ensures.1 in
    rw (p.1, p.2)
    (cause_from (fixed_faults n) (step_faults j (cursor_is c.args.at) (to_range c.args.place m mark.To n)) (between_right j (cursor_is c.args.at) c.args.place m n)
    c.in_err-right.field-0.0 (fixed_err n c.args.right c.in_err-right.field-0.0 c.in_err-right.was k))

pub returns-in_default : goal.returns-in_default
returns-in_default c = λ j m n h k.
    subst (Contains (step_faults j (cursor_is c.args.at) (to_range c.args.place m mark.To n))) (sym c.refusal.ensures) (no_row_between j (cursor_is c.args.at) c.args.place m n c.in_default.ensures.is)

pub returns : goal.returns
returns c = λ j m n h k.
    c.between_in.ensures j m n (cursor_is c.args.at) (is_signed (cursor_is c.args.at)) c.in-Some.ensures.is
    (fixed_ok m c.args.left c.in_ok-left.left c.in_ok-left.was h) (fixed_ok n c.args.right c.in_ok-right.right c.in_ok-right.was k)
