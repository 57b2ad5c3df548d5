use Rattle.std.proofs.Common.{◌≤◌, arith}
use Rattle.sv_names.specs.Kinds.{members_of}
use Rattle.sv_names.specs.Names.{constants_are}
use Rattle.sv_types.proofs.Shapes.{struct_ranges, not_empty}
use Rattle.sv_types.proofs.forms.struct_layout.Goals as goal

pub returns-in_ok-each : goal.returns-in_ok-each
returns-in_ok-each c =
    let some : 1 ≤ c.args.bits = omega arith in
    struct_ranges (constants_are c.args.names.now) c.args.signed c.args.ranges.now (members_of c.args.fields) c.args.bits c.in_ok-each.each c.over_ranges.result c.requires.bits some
    (not_empty c.args.ranges.now c.if-is_empty.ensures) c.in_ok-each.ensures.is c.over_ranges.ensures

pub structure-requires-clause-sound : goal.structure-requires-clause-sound
structure-requires-clause-sound c = c.requires.sound

pub structure-requires-clause-bits : goal.structure-requires-clause-bits
structure-requires-clause-bits c = c.requires.bits

pub structure-requires-clause-most : goal.structure-requires-clause-most
structure-requires-clause-most c = c.requires.most

pub structure-requires-else-is_empty-clause-sound : goal.structure-requires-else-is_empty-clause-sound
structure-requires-else-is_empty-clause-sound c = c.requires.sound

pub structure-requires-else-is_empty-clause-bits : goal.structure-requires-else-is_empty-clause-bits
structure-requires-else-is_empty-clause-bits c = c.requires.bits

pub structure-requires-else-is_empty-clause-most : goal.structure-requires-else-is_empty-clause-most
structure-requires-else-is_empty-clause-most c = c.requires.most
