use Rattle.std.proofs.Common.{◌≡◌, ◌∷◌, arith, rules}
use Rattle.std.proofs.lemmas.Grind.{common_steps}
use Rattle.sv_token.proofs.Steps.{body_kept, body_skips}
use Rattle.sv_token.proofs.scan.body_len.Goals as goal

pub body-preserved : goal.body-preserved
body-preserved c =
    let whole : c.body.rest.now ≡ c.in-Some.b.now ∷ c.in-Some.after.now = grind (arith, common_steps) in
    record {
      counted = body_kept c.body.n c.in-Some.b.now c.body.rest.now c.in-Some.after.now c.args.text.now whole (search rules) (search rules) (search rules) c.body.invariant.counted;
      room = grind (arith, common_steps, c.body.invariant.room, whole);
    }

pub body-preserved-then-c-ne10 : goal.body-preserved-then-c-ne10
body-preserved-then-c-ne10 c =
    let whole : c.body.rest.now ≡ c.in-Some.b.now ∷ c.in-Some.after.now = grind (arith, common_steps) in
    let later : c.in-Some.after.now ≡ c.in-Some-split_first.c.now ∷ c.in-Some-split_first.beyond.now = grind (arith, common_steps) in
    record {
      counted = body_skips c.body.n c.in-Some.b.now c.in-Some-split_first.c.now c.body.rest.now c.in-Some.after.now c.in-Some-split_first.beyond.now c.args.text.now whole later (search rules) (search rules) c.body.invariant.counted;
      room = grind (arith, common_steps, c.body.invariant.room, whole, later);
    }
