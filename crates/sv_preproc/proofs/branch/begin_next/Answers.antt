use Rattle.std.proofs.lemmas.Result.{IfOk-from_err}
use Rattle.std.proofs.Common.{◌≡◌, ◌++◌, ◌∷◌, [], arith, inr, false, rules}
use Rattle.std.specs.Prelude.{◌&&◌, not}
use Rattle.std.proofs.lemmas.Grind.{common_steps}
use Rattle.sv_preproc.specs.declared.known.Frame.{Frame}
use Rattle.sv_preproc.specs.Directives.{has}
use Rattle.sv_preproc.specs.Seen.{texts}
use Rattle.sv_preproc.proofs.Branches.{none_open, behind_last, without_name, without_word, begun_next}
use Rattle.sv_preproc.proofs.branch.begin_next.Goals as goal

pub returns-in_default-clause-refused : goal.returns-in_default-clause-refused
returns-in_default-clause-refused c =
    let none : c.args.frames.now.items ≡ [] = grind (arith, common_steps) in
    none_open c.args.frames.now.items c.args.first.now c.args.after.now none

pub returns-then-frame-clause-refused : goal.returns-then-frame-clause-refused
returns-then-frame-clause-refused c =
    let popped : c.args.frames.now.items ≡ c.pop.new.self.items ++ c.in-Some.frame ∷ [] = grind (arith, common_steps) in
    behind_last c.args.frames.now.items c.pop.new.self.items c.in-Some.frame c.args.first.now c.args.after.now popped c.if-frame.true (inr c.requires)

pub returns-in_default-split_first-clause-refused : goal.returns-in_default-split_first-clause-refused
returns-in_default-split_first-clause-refused c =
    let none : c.args.after.now ≡ [] = grind (arith, common_steps) in
    without_name _ c.args.first.now c.args.after.now c.requires none

pub returns-then-not-is_word-clause-refused : goal.returns-then-not-is_word-clause-refused
returns-then-not-is_word-clause-refused c =
    let some : c.args.after.now ≡ c.in-Some-split_first.name.now ∷ c.in-Some-split_first.behind.now = grind (arith, common_steps) in
    without_word _ c.args.first.now c.args.after.now c.in-Some-split_first.name.now c.in-Some-split_first.behind.now c.requires some (search rules)

pub returns-clause-ends : goal.returns-clause-ends
returns-clause-ends c =
    let popped : c.args.frames.now.items ≡ c.pop.new.self.items ++ c.in-Some.frame ∷ [] = grind (arith, common_steps) in
    let frame : Frame = record { live = c.in-Some.frame.live; taken = c.either-taken.result; last = false } in
    let pushed : c.push.new.self.items ≡ c.pop.new.self.items ++ frame ∷ [] = grind (arith, common_steps) in
    let some : c.args.after.now ≡ c.in-Some-split_first.name.now ∷ c.in-Some-split_first.behind.now = grind (arith, common_steps) in
    let name = c.in-Some-split_first.name.now in
    let holds : c.has-holds.result ≡ has name.token.text (texts c.args.macros.now) = rw (← c.bytes.ensures) c.has-holds.ensures in
    let live : c.both-inside.result ≡ (c.in-Some.frame.live && not c.in-Some.frame.taken && c.has-holds.result) = rw (← c.both-untaken.ensures) c.both-inside.ensures in
    begun_next (texts c.args.macros.now) c.args.frames.now.items c.pop.new.self.items c.push.new.self.items c.in-Some.frame c.both-inside.result c.either-taken.result c.has-holds.result
    c.args.first.now c.args.after.now name c.in-Some-split_first.behind.now popped c.requires c.if-frame.false some (search rules) holds live c.either-taken.ensures pushed

pub returns-in_err-push-clause-ends : goal.returns-in_err-push-clause-ends
returns-in_err-push-clause-ends c = IfOk-from_err _ _ c.from_residual.ensures.0
