use Rattle.std.proofs.lemmas.Result.{IfOk-from_err}
use Rattle.std.proofs.Common.{◌≡◌, ◌<◌, ℕ, not, false, ◌++◌, get_or, sym, ap, ◌∙◌, arith}
use Rattle.std.specs.Prelude.{filter}
use Rattle.std.proofs.lemmas.Bool.{eqb-true}
use Rattle.event_nets.specs.declared.gift.Gift.{Gift}
use Rattle.event_nets.specs.Gifts.{has_gift}
use Rattle.event_nets.proofs.Cutting.{left-none, left-made}
use Rattle.event_nets.proofs.overriding.left.Goals as goal

pub returns-then-is_empty : goal.returns-then-is_empty
returns-then-is_empty c =
    let none = eqb-true _ _ (sym c.is_empty.ensures ∙ c.if-is_empty.true) in
    left-none c.args.over.items c.args.gifts.items (omega (arith, none, c.args.over.ok.0))

pub returns : goal.returns
returns c =
    let gifts = c.args.gifts.items in
    let over = c.args.over.items in
    let marks = c.in_ok-overridden.overridden.items in
    let driven : (place : ℕ) → place < c.args.places → get_or marks place false ≡ has_gift over place =
    λ place lt. c.in_ok-overridden.ensures.driven place lt ∙ ap (λ l. has_gift l place) c.deref.ensures.value in
    c.in_ok-append.ensures.items
    ∙ ap (λ l. l ++ over)
    (c.in_ok-put_kept.ensures
    ∙ ap (λ l. l ++ filter (λ (g : Gift). not (get_or c.deref-2.result.now g.to false)) c.deref-3.result.now) c.new-all.ensures.items
    ∙ ap (λ l. filter (λ (g : Gift). not (get_or l g.to false)) c.deref-3.result.now) c.deref-2.ensures.value
    ∙ ap (λ l. filter (λ (g : Gift). not (get_or marks g.to false)) l) c.deref-3.ensures.value)
    ∙ left-made c.args.places over gifts marks driven c.requires.gifts

pub returns-in_err-append : goal.returns-in_err-append
returns-in_err-append c = IfOk-from_err _ _ c.from_residual-in_err-append.ensures.0

pub returns-in_err-overridden : goal.returns-in_err-overridden
returns-in_err-overridden c = IfOk-from_err _ _ c.from_residual.ensures.0

pub returns-in_err-put_kept : goal.returns-in_err-put_kept
returns-in_err-put_kept c = IfOk-from_err _ _ c.from_residual-in_err-put_kept.ensures.0
