use Rattle.std.proofs.Common.{sym, subst, option_map}
use Rattle.std.specs.Option.{option_copied}
use Rattle.sv_names.specs.Kinds.{what_is}
use Rattle.sv_typing.specs.Casts.{CountUnder}
use Rattle.sv_typing.proofs.sides.count_under.Goals as goal

pub returns-in-Some : goal.returns-in-Some
returns-in-Some c = subst (λ o. CountUnder c.args.word.now (option_map what_is (option_copied o)) c.args.constant c.count_of.result) (sym c.in-Some.is) c.count_of.ensures
