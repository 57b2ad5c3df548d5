use Rattle.std.proofs.Common.{◌+◌, ◌*◌, nat_le, ap, sym, ◌∙◌, subst, arith}
use Rattle.std.proofs.lemmas.Int.{ints}
use Rattle.std.specs.List.{Contains}
use Rattle.sv_typing.specs.Ranges.{between_faults}
use Rattle.sv_names.proofs.Sound.{same_bound}
use Rattle.sv_typing.proofs.Counts.{between_ok, goes_against, too_many}
use Rattle.sv_typing.proofs.ranges.between_count.Goals as goal

pub returns-then-not-goes_along : goal.returns-then-not-goes_along
returns-then-not-goes_along c =
    let l = same_bound c.args.row.now.left c.requires.row.left in
    let r = same_bound c.args.row.now.right c.requires.row.right in
    let a = same_bound c.args.a c.requires.a in
    let b = same_bound c.args.b c.requires.b in
    let e = rw (l, r, a, b) at c.goes_along.ensures in
    subst (Contains (between_faults c.args.place c.args.row.now c.args.a c.args.b)) (sym c.refusal.ensures)
    (goes_against c.args.place c.args.row.now c.args.a c.args.b (sym e ∙ c.if-not-goes_along.true))

pub returns-then-fits : goal.returns-then-fits
returns-then-fits c =
    let l = same_bound c.args.row.now.left c.requires.row.left in
    let r = same_bound c.args.row.now.right c.requires.row.right in
    let a = same_bound c.args.a c.requires.a in
    let b = same_bound c.args.b c.requires.b in
    let e = rw (l, r, a, b) at c.goes_along.ensures in
    between_ok c.args.row.now c.args.a c.args.b (c.abs_diff-count.result + 1) (sym e ∙ c.if-not-goes_along.false) (omega (arith, ints)) (omega arith)
    (ap (λ w. nat_le ((c.abs_diff-count.result + 1) * w) 128) (sym c.width.ensures.is) ∙ sym c.fits.ensures.is ∙ c.if-fits.true)

pub returns-else-fits : goal.returns-else-fits
returns-else-fits c =
    let l = same_bound c.args.row.now.left c.requires.row.left in
    let r = same_bound c.args.row.now.right c.requires.row.right in
    let a = same_bound c.args.a c.requires.a in
    let b = same_bound c.args.b c.requires.b in
    let e = rw (l, r, a, b) at c.goes_along.ensures in
    subst (Contains (between_faults c.args.place c.args.row.now c.args.a c.args.b)) (sym c.refusal-else-fits.ensures)
    (too_many c.args.place c.args.row.now c.args.a c.args.b (c.abs_diff-count.result + 1) (sym e ∙ c.if-not-goes_along.false) (omega (arith, ints))
    (ap (λ w. nat_le ((c.abs_diff-count.result + 1) * w) 128) (sym c.width.ensures.is) ∙ sym c.fits.ensures.is ∙ c.if-fits.false))
