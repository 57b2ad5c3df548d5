use Rattle.std.proofs.Common.{◌≡◌, ◌∷◌, [], arith, sym, ◌∙◌, ap}
use Rattle.std.proofs.lemmas.Grind.{common_steps}
use Rattle.sv_preproc.specs.Roles.{between_quotes}
use Rattle.sv_preproc.proofs.Files.{without_none}
use Rattle.sv_preproc.proofs.reading.between_quotes.Goals as goal

pub returns-in-None : goal.returns-in-None
returns-in-None c =
    let none : c.in-Some.behind.now ≡ [] = grind (arith, common_steps) in
    let whole : c.args.text.now ≡ c.in-Some.field-0-0.now ∷ c.in-Some.behind.now = grind (arith, common_steps) in
    sym (ap between_quotes whole ∙ without_none c.in-Some.behind.now none)
