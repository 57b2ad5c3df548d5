use Rattle.std.proofs.Common.{◌∙◌, List, min, sym, subst, ap, arith}
use Rattle.std.specs.List.{Contains}
use Rattle.sv_meaning.specs.Meanings.{concat}
use Rattle.sv_typed.specs.declared.tree.Typed.{Typed}
use Rattle.sv_typed.specs.Typed.{width_together}
use Rattle.sv_typing.proofs.Beside.{concat_wide, concat_ok, no_width, large_width, just}
use Rattle.sv_typing.proofs.sides.concat_typed.Goals as goal

pub returns-then-width-eq0 : goal.returns-then-width-eq0
returns-then-width-eq0 c = λ all d h l.
    let e = c.width_together-width.ensures ∙ ap (λ (x : List Typed). min 255 (width_together x)) c.as_slice.ensures in
    subst (Contains ((concat c.args.place all).faults d)) (sym c.refusal-then-width-eq0.ensures)
    (concat_wide c.args.place all d c.args.parts h (just all c.args.loose c.in-None.is l) (no_width (width_together c.args.parts) c.width_together-width.result e c.if-width-eq0.true))

pub returns-then-width-gt128 : goal.returns-then-width-gt128
returns-then-width-gt128 c = λ all d h l.
    let e = c.width_together-width.ensures ∙ ap (λ (x : List Typed). min 255 (width_together x)) c.as_slice.ensures in
    subst (Contains ((concat c.args.place all).faults d)) (sym c.refusal-then-width-gt128.ensures)
    (concat_wide c.args.place all d c.args.parts h (just all c.args.loose c.in-None.is l) (large_width (width_together c.args.parts) c.width_together-width.result e c.if-width-gt128.true))

pub returns-else-width-gt128 : goal.returns-else-width-gt128
returns-else-width-gt128 c = λ all d h l.
    let e = c.width_together-width.ensures ∙ ap (λ (x : List Typed). min 255 (width_together x)) c.as_slice.ensures in
    concat_ok c.args.place all d c.args.parts c.concat.result h (just all c.args.loose c.in-None.is l) (omega arith) (omega arith)
    (c.concat.ensures.stands all c.args.place h.stands h.sound) (c.concat.ensures.sound h.sound (omega arith))
