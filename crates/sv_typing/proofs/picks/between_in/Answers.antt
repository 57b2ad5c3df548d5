use Rattle.std.proofs.Common.{◌*◌, ◌∙◌, sym, subst, ap}
use Rattle.std.proofs.lemmas.Result.{err_from_is_err_and}
use Rattle.std.specs.List.{Contains}
use Rattle.sv_tree.specs.declared.exprs.RangeMark.TheVariants as mark
use Rattle.sv_meaning.specs.Meanings.{to_range, step_faults}
use Rattle.sv_typing.specs.Ranges.{between_faults}
use Rattle.sv_typing.proofs.Judged.{cause_from}
use Rattle.sv_names.proofs.Sound.{same_bound}
use Rattle.sv_typing.proofs.Spans.{far_left, far_right, between_fault, between_picks, fixed_number}
use Rattle.sv_typing.proofs.picks.between_in.Goals as goal

pub returns-in_default : goal.returns-in_default
returns-in_default c = λ j m n x s e h k.
    subst (Contains (step_faults j x (to_range c.args.place m mark.To n))) (sym c.refusal.ensures)
    (far_left j x s c.args.row c.args.place m n c.args.left.now c.args.right.now e h k c.in_default.ensures.none)

pub returns-in_default-small : goal.returns-in_default-small
returns-in_default-small c = λ j m n x s e h k.
    subst (Contains (step_faults j x (to_range c.args.place m mark.To n))) (sym c.refusal-in_default-small.ensures)
    (far_right j x s c.args.row c.args.place m n c.args.left.now c.args.right.now e h k c.in_default-small.ensures.none)

pub returns-in_err-count : goal.returns-in_err-count
returns-in_err-count c = λ j m n x s e h k.
    let p = err_from_is_err_and c.from_residual.result c.from_residual.ensures.1 in
    let a = same_bound c.in-Some.a c.in-Some.ensures.bound in
    let b = same_bound c.in-Some-small.b c.in-Some-small.ensures.bound in
    let f = rw (a, b) at c.in_err-count.ensures in
    rw (p.1, p.2)
    (cause_from (between_faults c.args.place c.args.row c.in-Some.a c.in-Some-small.b) (step_faults j x (to_range c.args.place m mark.To n))
    (λ r. between_fault j x s c.args.row c.args.place m n c.args.left.now c.args.right.now c.in-Some.a c.in-Some-small.b r e h k c.in-Some.ensures.some c.in-Some-small.ensures.some c.in-Some.ensures.bound c.in-Some-small.ensures.bound)
    c.in_err-count.field-0.0 f)

pub returns : goal.returns
returns c = λ j m n x s e h k.
    let a = same_bound c.in-Some.a c.in-Some.ensures.bound in
    let b = same_bound c.in-Some-small.b c.in-Some-small.ensures.bound in
    let f = rw (a, b) at c.in_ok-count.ensures in
    let q = rw (a, b) at c.lowest_place.ensures in (
      between_picks j x m n s c.args.row c.args.place c.args.left.now c.args.right.now c.in-Some.a c.in-Some-small.b c.in_ok-count.count (c.in_ok-count.count * c.width.result) c.lowest_place.result c.both_hold.result
          e c.requires h k
          (fixed_number m c.args.left.now h ∙ sym c.in-Some.ensures.some)
          (fixed_number n c.args.right.now k ∙ sym c.in-Some-small.ensures.some)
          c.in-Some.ensures.bound c.in-Some-small.ensures.bound f q (ap (λ w. c.in_ok-count.count * w) c.width.ensures.is) c.both_hold.ensures,
      (c.requires.each, f.some, f.most),
    )

pub between_count-requires-clause-row : goal.between_count-requires-clause-row
between_count-requires-clause-row c = c.requires

pub lowest_place-requires-clause-row : goal.lowest_place-requires-clause-row
lowest_place-requires-clause-row c = c.requires

pub width-requires : goal.width-requires
width-requires c = c.requires.each
