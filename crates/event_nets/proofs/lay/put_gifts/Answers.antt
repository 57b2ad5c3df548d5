use Rattle.std.proofs.lemmas.Result.{IfOk-from_err}
use Rattle.std.proofs.Common.{◌<◌, ◌++◌, ◌∷◌, [], length, get_or, take, sym, ap, ◌∙◌, arith, append_assoc}
use Rattle.event_nets.specs.declared.gift.Gift.{Gift}
use Rattle.event_nets.specs.Gifts.{gifts_at}
use Rattle.event_nets.proofs.Laying.{append-none, gifts_at-more}
use Rattle.event_nets.proofs.lay.put_gifts.Goals as goal

pub loop-at-init : goal.loop-at-init
unfolding gifts_at
loop-at-init c = sym (append-none c.args.gifts.now.items)

pub loop-at-preserved : goal.loop-at-preserved
loop-at-preserved c =
    let places = c.args.places.now in
    let from = c.args.from.now in
    let at = c.loop-at.at in
    let old = c.args.gifts.now.items in
    let within : at < length places = omega arith in
    let g : Gift = record { to = get_or places at 0; from = from; at = at } in
    c.in_ok-push.ensures.items
    ∙ ap (λ s. s ++ g ∷ []) c.loop-at.invariant
    ∙ append_assoc old (gifts_at from 0 (take at places)) (g ∷ [])
    ∙ ap (λ s. old ++ s) (sym (gifts_at-more from places at within))

pub returns-in_err-push : goal.returns-in_err-push
returns-in_err-push c = IfOk-from_err _ _ c.from_residual.ensures.0
