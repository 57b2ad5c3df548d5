use Rattle.std.proofs.Common.{◌≡◌, ◌∷◌, arith, sym, ◌∙◌, ap}
use Rattle.std.proofs.lemmas.Grind.{common_steps}
use Rattle.sv_token.proofs.Tokens.{front_token, scanned}
use Rattle.sv_token.proofs.front.front_of.Goals as goal

pub returns-in-Some-token_at : goal.returns-in-Some-token_at
returns-in-Some-token_at c =
    let whole : c.args.text.now ≡ c.in-Some.first.now ∷ c.in-Some._after.now = grind (arith, common_steps) in
    sym (front_token c.in-Some.first.now c.in-Some._after.now c.args.text.now whole (sym c.is_blank.ensures ∙ c.if-is_blank.false) (sym c.opens.ensures ∙ c.if-opens.false)
    (sym c.opens-2.ensures ∙ c.if-opens-2.false) (sym c.continues.ensures ∙ c.if-continues.false) ∙ ap scanned (sym c.token_at.ensures ∙ c.in-Some-token_at.is))

pub returns-in-None : goal.returns-in-None
returns-in-None c =
    let whole : c.args.text.now ≡ c.in-Some.first.now ∷ c.in-Some._after.now = grind (arith, common_steps) in
    sym (front_token c.in-Some.first.now c.in-Some._after.now c.args.text.now whole (sym c.is_blank.ensures ∙ c.if-is_blank.false) (sym c.opens.ensures ∙ c.if-opens.false)
    (sym c.opens-2.ensures ∙ c.if-opens-2.false) (sym c.continues.ensures ∙ c.if-continues.false) ∙ ap scanned (sym c.token_at.ensures ∙ c.in-None.is))
