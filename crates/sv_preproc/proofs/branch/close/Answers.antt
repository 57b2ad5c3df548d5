use Rattle.std.proofs.Common.{◌≡◌, ◌++◌, ◌∷◌, [], arith}
use Rattle.std.proofs.lemmas.Grind.{common_steps}
use Rattle.sv_preproc.proofs.Branches.{none_open, closed}
use Rattle.sv_preproc.proofs.branch.close.Goals as goal

pub returns-in_default-clause-refused : goal.returns-in_default-clause-refused
returns-in_default-clause-refused c =
    let none : c.args.frames.now.items ≡ [] = grind (arith, common_steps) in
    none_open c.args.frames.now.items c.args.first.now c.args.after.now none

pub returns-clause-ends : goal.returns-clause-ends
returns-clause-ends c macros =
    let popped : c.args.frames.now.items ≡ c.pop.new.self.items ++ c.in-Some.frame ∷ [] = grind (arith, common_steps) in
    closed macros c.args.frames.now.items c.pop.new.self.items c.in-Some.frame c.args.first.now c.args.after.now popped c.requires
