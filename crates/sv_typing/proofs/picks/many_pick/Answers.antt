use Rattle.std.proofs.Common.{sym, subst}
use Rattle.std.specs.List.{Contains}
use Rattle.std.proofs.lemmas.Result.{err_from_is_err_and}
use Rattle.sv_meaning.specs.Layouts.{is_signed}
use Rattle.sv_meaning.specs.Meanings.{to_range, step_faults, fixed_faults}
use Rattle.sv_typed.specs.declared.tree.Typed.{Typed}
use Rattle.sv_names.specs.Cursors.{cursor_is}
use Rattle.sv_typing.specs.Judging.{IsTyped}
use Rattle.sv_typing.proofs.Judged.{typed_ok, typed_err, fixed_ok, fixed_err, cause_from}
use Rattle.sv_typing.proofs.Spans.{many_left, many_right, no_row_range}
use Rattle.sv_typing.proofs.picks.many_pick.Goals as goal

pub returns-in_err-left : goal.returns-in_err-left
returns-in_err-left c = λ j m n h k.
    let p = err_from_is_err_and c.from_residual.result c.from_residual.ensures.1 in
    rw (p.1, p.2)
    (cause_from (j m) (step_faults j (cursor_is c.args.at) (to_range c.args.place m c.args.mark n)) (λ r. many_left j (cursor_is c.args.at) c.args.place m c.args.mark n r c.requires.mark)
    c.in_err-left.field-0.0 (typed_err m (j m) c.args.left c.in_err-left.field-0.0 c.in_err-left.was h))

pub returns-in_err-left-2 : goal.returns-in_err-left-2
returns-in_err-left-2 c = λ j m n h k.
    let p = err_from_is_err_and c.from_residual-in_err-left-2.result c.from_residual-in_err-left-2.ensures.1 in
    rw (p.1, p.2)
    (cause_from (fixed_faults n) (step_faults j (cursor_is c.args.at) (to_range c.args.place m c.args.mark n)) (λ r. many_right j (cursor_is c.args.at) c.args.place m c.args.mark n r c.requires.mark)
    c.in_err-left-2.field-0.0 (fixed_err n c.args.right c.in_err-left-2.field-0.0 c.in_err-left-2.ensures.failed k))

pub returns-in_default : goal.returns-in_default
returns-in_default c = λ j m n h k.
    subst (Contains (step_faults j (cursor_is c.args.at) (to_range c.args.place m c.args.mark n))) (sym c.refusal.ensures)
    (no_row_range j (cursor_is c.args.at) c.args.place m c.args.mark n c.in_default.ensures.is)

pub returns : goal.returns
returns c = λ j m n h k.
    let P : Typed → Type 0 = λ t. IsTyped m (j m) t in
    c.many_in.ensures j m n (cursor_is c.args.at) (is_signed (cursor_is c.args.at)) c.in-Some.ensures.is
    (subst P (sym c.in_ok-left-2.ensures.pair.0) (typed_ok m (j m) c.args.left c.in_ok-left.left c.in_ok-left.was h)) (fixed_ok n c.args.right c.in_ok-left-2.right c.in_ok-left-2.ensures.pair.1 k)
