use Rattle.std.proofs.Common.{◌∙◌, List, min, sym, subst, ap, nat_abs}
use Rattle.std.specs.List.{Contains}
use Rattle.sv_meaning.specs.Meanings.{repeated, whole}
use Rattle.sv_typed.specs.declared.tree.Typed.{Typed}
use Rattle.sv_typed.specs.Typed.{width_together}
use Rattle.sv_typing.proofs.Spans.{fixed_number}
use Rattle.sv_typing.proofs.Beside.{repeat_wide, repeat_ok, copies_capped, capped_false, some_width, just}
use Rattle.sv_typing.proofs.sides.repeat_typed.Goals as goal

pub repeat-requires : goal.repeat-requires
repeat-requires c =
    let f = c.args.count.now in
    let e = c.width_together-width.ensures ∙ ap (λ (x : List Typed). min 255 (width_together x)) c.as_slice.ensures in
    let k = copies_capped (whole f.known.signed f.known.value) c.width_together-width.result (width_together c.args.parts) c.in-Some-copies.count e c.in-Some-copies.ensures in
    record { some = k.some; most = k.most }

pub returns-in-Some-copies : goal.returns-in-Some-copies
returns-in-Some-copies c = λ n all d i h l.
    let f = c.args.count.now in
    let e = c.width_together-width.ensures ∙ ap (λ (x : List Typed). min 255 (width_together x)) c.as_slice.ensures in
    let k = copies_capped (whole f.known.signed f.known.value) c.width_together-width.result (width_together c.args.parts) c.in-Some-copies.count e c.in-Some-copies.ensures in
    repeat_ok c.args.place n f all d c.args.parts c.in-Some-copies.count c.repeat.result i h (just all c.args.loose c.in-None.is l) k
    (c.repeat.ensures.stands all n c.args.place h.stands h.sound (ap nat_abs (fixed_number n f i ∙ k.number))) (c.repeat.ensures.sound h.sound (some_width c.in-Some-copies.count (width_together c.args.parts) k.bits))

pub returns-in-None-copies : goal.returns-in-None-copies
returns-in-None-copies c = λ n all d i h l.
    let f = c.args.count.now in
    let e = c.width_together-width.ensures ∙ ap (λ (x : List Typed). min 255 (width_together x)) c.as_slice.ensures in
    subst (Contains ((repeated c.args.place n all).faults d)) (sym c.refusal-in-None-copies.ensures)
    (repeat_wide c.args.place n f all d c.args.parts i h (just all c.args.loose c.in-None.is l) (capped_false (whole f.known.signed f.known.value) c.width_together-width.result (width_together c.args.parts) e c.in-None-copies.ensures))
