use Rattle.std.proofs.Common.{Ok, ap, false}
use Rattle.std.specs.Option.{option_copied}
use Rattle.sv_meaning.specs.Forms.{bounds}
use Rattle.sv_meaning.specs.Layouts as m
use Rattle.sv_names.specs.Names.{constants_are}
use Rattle.sv_types.proofs.Ranging.{base_some, scalar_layout}
use Rattle.sv_types.proofs.ranges.base_layout.Goals as goal

pub returns-in-Some : goal.returns-in-Some
returns-in-Some c =
    let at = constants_are c.args.names.now in
    base_some at c.args.signed c.in-Some.range.now _ c.ranged.result (ap option_copied c.in-Some.is)
    (c.ranged.ensures (Ok (m.scalar false)) (bounds at c.in-Some.range.now) (scalar_layout false c.scalar-in-Some.result c.scalar-in-Some.ensures.is c.scalar-in-Some.ensures.sound) c.bounds.ensures)
