use Rattle.std.proofs.Common.{◌≡◌, ℕ, List, sym, ap, ◌∙◌, subst, option_map}
use Rattle.std.specs.Option.{option_copied}
use Rattle.sv_meaning.specs.Layouts.{find}
use Rattle.sv_names.specs.Kinds.{what_is}
use Rattle.sv_names.specs.Names.{names_are, constants_are}
use Rattle.sv_typing.specs.Positions.{seen_in}
use Rattle.sv_typing.proofs.typing.found.Goals as goal

pub returns-in-Constant-clause-is : goal.returns-in-Constant-clause-is
returns-in-Constant-clause-is c =
    subst (λ p. option_map what_is (option_copied c.find_above.result) ≡ find c.args.word.now.text (seen_in p (names_are c.args.names.now))) (sym c.in-Constant.is)
    (c.find_above.ensures.is ∙ ap (λ (n : List ℕ). find n (constants_are c.args.names.now)) c.bytes.ensures)
