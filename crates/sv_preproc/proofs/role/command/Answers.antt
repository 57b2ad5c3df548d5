use Rattle.std.proofs.Common.{◌≡◌, ◌∷◌, [], arith}
use Rattle.std.proofs.lemmas.Grind.{common_steps}
use Rattle.sv_preproc.proofs.Commands.{empty_used, other_used}
use Rattle.sv_preproc.proofs.role.command.Goals as goal

pub returns-in_default : goal.returns-in_default
returns-in_default c = let none : c.args.text.now ≡ [] = grind (arith, common_steps) in empty_used c.args.text.now none

pub returns-else-first-eq96 : goal.returns-else-first-eq96
returns-else-first-eq96 c =
    let whole : c.args.text.now ≡ c.in-Some.first.now ∷ c.in-Some.name.now = grind (arith, common_steps) in
    other_used c.args.text.now c.in-Some.name.now c.in-Some.first.now whole c.if-first-eq96.false
