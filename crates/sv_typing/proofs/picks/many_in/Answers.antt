use Rattle.std.proofs.Common.{◌*◌, ◌∙◌, ℤ, pos, sym, subst, ap}
use Rattle.std.proofs.lemmas.Result.{err_from_is_err_and}
use Rattle.sv_meaning.specs.Meanings.{to_range, step_faults, whole}
use Rattle.sv_typed.specs.declared.tree.Typed.{Typed}
use Rattle.sv_typed.specs.declared.tree.PickPlace.TheVariants as place
use Rattle.sv_typing.specs.Judging.{IsTyped}
use Rattle.sv_typing.specs.Picks.{spot_of}
use Rattle.sv_typing.specs.Ranges.{IsMany, JudgesMany, many_faults, shift_of}
use Rattle.sv_typing.proofs.Judged.{cause_from}
use Rattle.sv_names.proofs.Sound.{same_small}
use Rattle.sv_typing.proofs.Spans.{many_fault, many_picks, fixed_number}
use Rattle.sv_typing.proofs.picks.many_in.Goals as goal

pub returns-in_err-left : goal.returns-in_err-left
returns-in_err-left c = λ j m n x s e h k.
    let p = err_from_is_err_and c.from_residual.result c.from_residual.ensures.1 in
    let f = c.args.right.now in
    rw (p.1, p.2)
    (cause_from (many_faults c.args.place c.args.row (whole f.known.signed f.known.value)) (step_faults j x (to_range c.args.place m c.args.mark n))
    (λ r. many_fault j x s c.args.row c.args.place m c.args.mark n c.args.left f r e c.requires.mark h k)
    c.in_err-left.field-0.0 (subst (JudgesMany c.args.place c.args.row (whole f.known.signed f.known.value)) c.in_err-left.ensures.failed c.many_count.ensures))

pub returns : goal.returns
returns c = λ j m n x s e h k.
    let row = c.args.row in
    let v = c.in_ok-left.left in
    let f = c.args.right.now in
    let i = c.in_ok-left.count in
    let P : Typed → Type 0 = λ t. IsTyped m (j m) t in
    let of_left : IsTyped m (j m) v = subst P (sym c.in_ok-left.ensures.pair.0) h in
    let many : IsMany row (whole f.known.signed f.known.value) i = subst (JudgesMany c.args.place row (whole f.known.signed f.known.value)) c.in_ok-left.ensures.pair.1 c.many_count.ensures in
    let d = same_small c.shift.result c.shift.ensures.most ∙ c.shift.ensures.is ∙ ap (λ d. shift_of c.args.mark d (pos i)) c.goes_down.ensures in (
      many_picks j x m c.args.mark n s row c.args.place v f i (i * c.width.result) c.in_ok-spot.spot c.both_hold-constant.result
          e c.requires.mark c.requires.row of_left k
          (subst (λ (z : ℤ). IsMany row z i) (sym (fixed_number n f k)) many) (c.in_ok-spot.ensures ∙ ap (λ (z : ℤ). place.Moving v (spot_of row v.signed z (i * c.width.result))) d) (ap (λ w. i * w) c.width.ensures.is) c.both_hold-constant.ensures,
      (c.requires.row.each, many.some, many.most),
    )

pub moving-requires-clause-row : goal.moving-requires-clause-row
moving-requires-clause-row c = c.requires.row

pub many_count-requires-clause-row : goal.many_count-requires-clause-row
many_count-requires-clause-row c = c.requires.row

pub width-requires : goal.width-requires
width-requires c = c.requires.row.each
