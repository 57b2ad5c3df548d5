use Rattle.std.proofs.Common.{sym, subst, option_map}
use Rattle.std.specs.Option.{option_copied}
use Rattle.sv_names.specs.Kinds.{what_is}
use Rattle.sv_typing.specs.Roots.{JudgesRoot}
use Rattle.sv_typing.proofs.roots.root_of.Goals as goal

pub returns-in-Some : goal.returns-in-Some
returns-in-Some c = subst (λ o. JudgesRoot c.args.word.now (option_map what_is (option_copied o)) c.args.constant c.root_under.result) (sym c.in-Some.is) c.root_under.ensures
