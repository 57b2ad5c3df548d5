use Rattle.std.proofs.Common.{List, subst}
use Rattle.lhs_alias.specs.declared.segs.Seg.{Seg}
use Rattle.svtv_invariants.specs.Halving.{IsMadeOf}
use Rattle.svtv_invariants.proofs.Halving.{halves}
use Rattle.svtv_invariants.proofs.halves.halves_of.Goals as goal

pub returns-in-Ok-half_of-clause-halves : goal.returns-in-Ok-half_of-clause-halves
returns-in-Ok-half_of-clause-halves c =
    let flat = c.args.flat.now in
    let goals = c.args.goals.now in
    let reset = c.args.reset in
    let period = c.args.period in
    let base = c.in-Ok.base in
    let step = c.in-Ok-half_of.step in
    halves flat c.in_ok-firsts.firsts c.in_ok-firsts.ensures goals reset period base step
    (subst (λ (fs : List (List Seg)). IsMadeOf flat reset fs goals base) c.as_slice.ensures c.in-Ok.ensures.made)
    (subst (λ (fs : List (List Seg)). IsMadeOf flat period fs goals step) c.as_slice-2.ensures c.in-Ok-half_of.ensures.made)
    c.requires.reset c.requires.period c.requires.reset_widths c.requires.period_widths c.requires.reset_last c.requires.period_last c.requires.alike c.requires.claims
