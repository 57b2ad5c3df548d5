use Rattle.std.proofs.Common.{◌≡◌, ◌∷◌, arith, sym, ◌∙◌}
use Rattle.std.proofs.lemmas.Grind.{common_steps}
use Rattle.sv_token.proofs.Steps.{comment_kept}
use Rattle.sv_token.proofs.scan.comment_len.Goals as goal

pub comment-preserved : goal.comment-preserved
comment-preserved c =
    let whole : c.comment.rest.now ≡ c.in-Some.field-0-0.now ∷ c.in-Some.after.now = grind (arith, common_steps) in
    record {
      counted = comment_kept c.comment.n _ c.comment.rest.now c.in-Some.after.now c.args.text.now whole (sym c.opens.ensures ∙ c.if-opens.false) c.comment.invariant.counted;
      room = grind (arith, common_steps, c.comment.invariant.room, whole);
    }
