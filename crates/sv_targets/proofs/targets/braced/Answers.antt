use Rattle.std.proofs.Common.{List, min, ap, ◌∙◌, sym, subst, arith}
use Rattle.std.specs.List.{Contains}
use Rattle.sv_meaning.specs.Faults.{or_then}
use Rattle.sv_meaning.specs.Targets.{wide_target}
use Rattle.sv_targets.specs.declared.targets.TypedTarget.{TypedTarget}
use Rattle.sv_targets.specs.Targets.{width_of_all}
use Rattle.sv_targets.proofs.Targeting.{braced_ok, braced_none, braced_many, targets_ok}
use Rattle.sv_targets.proofs.targets.braced.Goals.{else-width-ge1-via-then-width-ge1+else-width-le128, else-width-ge1-via-else-width-ge1}
use Rattle.sv_targets.proofs.targets.braced.Goals as goal

pub returns-then-width-le128-clause-is : goal.returns-then-width-le128-clause-is
returns-then-width-le128-clause-is c = λ judge f xs h.
    let w = c.width_of_all-width.ensures ∙ ap (λ (z : List TypedTarget). min 255 (width_of_all z)) c.as_slice.ensures in
    let some = c.if-width-ge1.true in
    let most = c.if-width-le128.true in
    braced_ok judge f xs c.in-Ok.all c.args.place c.width_of_all-width.result (targets_ok judge f xs c.args.all c.in-Ok.all c.in-Ok.is h) w (omega arith) (omega arith)

pub returns-else-width-ge1-clause-is : goal.returns-else-width-ge1-clause-is
returns-else-width-ge1-clause-is c = λ judge f xs h.
    let w = c.width_of_all-width.ensures ∙ ap (λ (z : List TypedTarget). min 255 (width_of_all z)) c.as_slice.ensures in
    let a = targets_ok judge f xs c.args.all c.in-Ok.all c.in-Ok.is h in
    subst (Contains (or_then f (wide_target c.args.place xs))) (sym c.refusal.ensures)
    (elim c.else-width-ge1.branch [
      | else-width-ge1-via-then-width-ge1+else-width-le128 v ↦ let k = v.if-width-le128.false in braced_many judge f xs c.in-Ok.all c.args.place c.width_of_all-width.result a w (omega arith)
      | else-width-ge1-via-else-width-ge1 v ↦ let k = v.if-width-ge1.false in braced_none judge f xs c.in-Ok.all c.args.place c.width_of_all-width.result a w (omega arith)
    ])
