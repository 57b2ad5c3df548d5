use Rattle.std.proofs.Common.{option_map}
use Rattle.std.specs.Option.{option_copied}
use Rattle.sv_names.specs.Kinds.{what_is}
use Rattle.sv_typing.proofs.Targets.{cast_type, cast_other}
use Rattle.sv_typing.proofs.sides.name_cast_typed.Goals as goal

pub returns-in-Some : goal.returns-in-Some
returns-in-Some c = λ m h.
    cast_type c.args.word.now (option_map what_is (option_copied c.args.what)) c.in-Some.layout.now m c.args.constant c.layout_cast_typed.result c.in-Some.ensures (c.layout_cast_typed.ensures m c.args.constant h)

pub returns-in-None : goal.returns-in-None
returns-in-None c = λ m h.
    cast_other c.args.word.now (option_map what_is (option_copied c.args.what)) m c.args.constant c.count_under.result c.cast_typed.result c.in-None.ensures c.count_under.ensures
    (λ n s k. c.cast_typed.ensures.judged n m c.args.constant s k h) c.cast_typed.ensures.stops
