use Rattle.std.proofs.Common.{sym, subst, option_map}
use Rattle.std.specs.Option.{option_copied}
use Rattle.sv_names.specs.Kinds.{what_is}
use Rattle.sv_typing.specs.Casts.{LayoutUnder}
use Rattle.sv_typing.proofs.sides.layout_under.Goals as goal

pub returns-in-Some : goal.returns-in-Some
returns-in-Some c = subst (λ o. LayoutUnder (option_map what_is (option_copied o)) (option_copied c.layout_of.result)) (sym c.in-Some.is) c.layout_of.ensures
