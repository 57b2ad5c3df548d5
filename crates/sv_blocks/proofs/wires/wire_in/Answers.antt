use Rattle.std.proofs.Common.{ap, subst, refl}
use Rattle.sv_names.specs.Kinds.{what_is, WhatIsSound}
use Rattle.sv_blocks.proofs.Wiring.{wire_kept}
use Rattle.sv_blocks.proofs.wires.wire_in.Goals as goal

pub returns-in-Wire : goal.returns-in-Wire
returns-in-Wire c =
    let g = wire_kept c.in-Wire.number c.in-Wire.layout (what_is c.args.what.now) _ (ap what_is c.in-Wire.is) (subst WhatIsSound c.in-Wire.is c.requires) refl in
    record { is = g.0; bits = g.1 }
