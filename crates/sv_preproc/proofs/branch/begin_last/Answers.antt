use Rattle.std.proofs.lemmas.Result.{IfOk-from_err}
use Rattle.std.proofs.Common.{◌≡◌, ◌++◌, ◌∷◌, [], arith, inl, true}
use Rattle.std.proofs.lemmas.Grind.{common_steps}
use Rattle.sv_preproc.specs.declared.known.Frame.{Frame}
use Rattle.sv_preproc.proofs.Branches.{none_open, behind_last, begun_last}
use Rattle.sv_preproc.proofs.branch.begin_last.Goals as goal

pub returns-in_default-clause-refused : goal.returns-in_default-clause-refused
returns-in_default-clause-refused c =
    let none : c.args.frames.now.items ≡ [] = grind (arith, common_steps) in
    none_open c.args.frames.now.items c.args.first.now c.args.after.now none

pub returns-then-frame-clause-refused : goal.returns-then-frame-clause-refused
returns-then-frame-clause-refused c =
    let popped : c.args.frames.now.items ≡ c.pop.new.self.items ++ c.in-Some.frame ∷ [] = grind (arith, common_steps) in
    behind_last c.args.frames.now.items c.pop.new.self.items c.in-Some.frame c.args.first.now c.args.after.now popped c.if-frame.true (inl c.requires)

pub returns-clause-ends : goal.returns-clause-ends
returns-clause-ends c macros =
    let popped : c.args.frames.now.items ≡ c.pop.new.self.items ++ c.in-Some.frame ∷ [] = grind (arith, common_steps) in
    let frame : Frame = record { live = c.in-Some.frame.live; taken = true; last = true } in
    let pushed : c.push.new.self.items ≡ c.pop.new.self.items ++ frame ∷ [] = grind (arith, common_steps) in
    begun_last macros c.args.frames.now.items c.pop.new.self.items c.push.new.self.items c.in-Some.frame c.both-inside.result c.args.first.now c.args.after.now popped c.requires
    c.if-frame.false c.both-inside.ensures pushed

pub returns-in_err-push-clause-ends : goal.returns-in_err-push-clause-ends
returns-in_err-push-clause-ends c = IfOk-from_err _ _ c.from_residual.ensures.0
