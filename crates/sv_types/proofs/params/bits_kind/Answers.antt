use Rattle.std.proofs.Common.{ap}
use Rattle.std.specs.Option.{option_copied}
use Rattle.sv_names.specs.Names.{constants_are}
use Rattle.sv_types.proofs.Valuing.{bits_range, bits_plain}
use Rattle.sv_types.proofs.params.bits_kind.Goals as goal

pub returns-in-Some : goal.returns-in-Some
returns-in-Some c =
    bits_range (constants_are c.args.names.now) c.args.word c.args.sign (option_copied c.args.range) c.in-Some.range.now c.has_sign.result c.in_range.result (ap option_copied c.in-Some.is) c.has_sign.ensures c.in_range.ensures

pub returns-in-None : goal.returns-in-None
returns-in-None c =
    bits_plain (constants_are c.args.names.now) c.args.word c.args.sign (option_copied c.args.range) c.plain_kind.result (ap option_copied c.in-None.is) (c.plain_kind.ensures (constants_are c.args.names.now))
