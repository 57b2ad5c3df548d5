use Rattle.std.proofs.Common.{refl}
use Rattle.sv_names.specs.Kinds.{members_of}
use Rattle.sv_names.specs.Names.{constants_are}
use Rattle.sv_types.specs.Types.{struct_of}
use Rattle.sv_types.proofs.Ranging.{layout_ok, layout_err}
use Rattle.sv_types.proofs.Shapes.{struct_ok, struct_refused, members_of_result}
use Rattle.sv_types.proofs.forms.struct_form.Goals as goal

pub returns-in-Ok-struct_layout : goal.returns-in-Ok-struct_layout
returns-in-Ok-struct_layout c = λ j at h.
    let l = c.in-Ok.field-0 in
    let now = c.args.names.now in
    struct_ok j at now c.args.signed c.args.ranges.now l _ (members_of_result j at now c.args.listed l c.in-Ok.is h)
    (layout_ok (struct_of (constants_are now) c.args.signed c.args.ranges.now (members_of l.fields)) c.struct_layout.result c.in-Ok-struct_layout.layout c.in-Ok-struct_layout.is c.struct_layout.ensures) refl

pub returns-in-Err-struct_layout : goal.returns-in-Err-struct_layout
returns-in-Err-struct_layout c = λ j at h.
    let l = c.in-Ok.field-0 in
    let now = c.args.names.now in
    struct_refused j at now c.args.signed c.args.ranges.now l c.in-Err-struct_layout.why (members_of_result j at now c.args.listed l c.in-Ok.is h)
    (layout_err (struct_of (constants_are now) c.args.signed c.args.ranges.now (members_of l.fields)) c.struct_layout.result c.in-Err-struct_layout.why c.in-Err-struct_layout.is c.struct_layout.ensures)
