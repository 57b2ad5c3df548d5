use Rattle.std.proofs.Common.{pos}
use Rattle.std.specs.Option.{option_copied}
use Rattle.sv_meaning.specs.Forms.{vector_layout, option_to_list, labels}
use Rattle.sv_names.specs.Names.{constants_are}
use Rattle.sv_names.proofs.Sound.{sound_some, sound_most}
use Rattle.sv_types.proofs.Ranging.{layout_ok}
use Rattle.sv_types.proofs.Shapes.{enum_ok, enum_refused, labels_of_result, labels_refused}
use Rattle.sv_types.proofs.forms.enum_form.Goals as goal

pub enumerators-requires-clause-some : goal.enumerators-requires-clause-some
enumerators-requires-clause-some c =
    let at = constants_are c.args.names.now in
    sound_some c.in-Ok.layout (layout_ok (vector_layout at c.args.signed (option_to_list (option_copied c.args.range))) c.base_layout.result c.in-Ok.layout c.in-Ok.is c.base_layout.ensures).sound

pub enumerators-requires-clause-most : goal.enumerators-requires-clause-most
enumerators-requires-clause-most c =
    let at = constants_are c.args.names.now in
    sound_most c.in-Ok.layout (layout_ok (vector_layout at c.args.signed (option_to_list (option_copied c.args.range))) c.base_layout.result c.in-Ok.layout c.in-Ok.is c.base_layout.ensures).sound

pub returns-in-Ok-enumerators : goal.returns-in-Ok-enumerators
returns-in-Ok-enumerators c =
    let at = constants_are c.args.names.now in
    let x = c.in-Ok.layout in
    enum_ok c.args.names.now c.enumerators.new.names c.args.signed (option_copied c.args.range) c.args.all.now _
    (layout_ok (vector_layout at c.args.signed (option_to_list (option_copied c.args.range))) c.base_layout.result x c.in-Ok.is c.base_layout.ensures)
    (labels_of_result (labels at x.width c.args.signed (pos 0) c.args.all.now) c.args.names.now c.enumerators.new.names c.enumerators.result c.in-Ok-enumerators.declared c.in-Ok-enumerators.is c.enumerators.ensures)

pub returns-in-Err-enumerators : goal.returns-in-Err-enumerators
returns-in-Err-enumerators c =
    let at = constants_are c.args.names.now in
    let x = c.in-Ok.layout in
    enum_refused c.args.names.now c.enumerators.new.names c.args.signed (option_copied c.args.range) c.args.all.now x c.in-Err-enumerators.why
    (layout_ok (vector_layout at c.args.signed (option_to_list (option_copied c.args.range))) c.base_layout.result x c.in-Ok.is c.base_layout.ensures)
    (labels_refused (labels at x.width c.args.signed (pos 0) c.args.all.now) c.args.names.now c.enumerators.new.names c.enumerators.result c.in-Err-enumerators.why c.in-Err-enumerators.is c.enumerators.ensures)
