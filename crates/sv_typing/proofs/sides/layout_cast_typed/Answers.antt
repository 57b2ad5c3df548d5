use Rattle.std.proofs.Common.{sym}
use Rattle.sv_names.specs.Kinds.{layout_is}
use Rattle.sv_typing.proofs.Judged.{typed_ok}
use Rattle.sv_names.proofs.Sound.{sound_is, sound_some, sound_most, sign_is}
use Rattle.sv_typing.proofs.Beside.{layout_ok}
use Rattle.sv_typing.proofs.sides.layout_cast_typed.Goals as goal

pub returns : goal.returns
returns c = λ m d h.
    let x = c.args.layout.now in
    let t = typed_ok m (m.faults d) c.args.x c.in_ok-x.x c.in_ok-x.was h in
    layout_ok c.args.place (layout_is x) m d c.in_ok-x.x c.in_ok-fitted.field-0 t
    (c.in_ok-fitted.ensures.layout (layout_is x) m c.args.place t.stands (sym (sound_is x c.requires)) (sym (sign_is x)))
    (c.in_ok-fitted.ensures.sound t.sound (sound_some x c.requires, sound_most x c.requires))
