use Rattle.std.proofs.lemmas.Result.{IfOk-from_err}
use Rattle.std.proofs.Common.{not, false, cond, [], ◌∷◌, ◌++◌, get_or, take, sym, ap, ◌∙◌, arith, append_assoc}
use Rattle.std.specs.Prelude.{filter}
use Rattle.std.proofs.lemmas.List.{take_all}
use Rattle.event_nets.specs.declared.gift.Gift.{Gift}
use Rattle.event_nets.proofs.Cutting.{kept-more}
use Rattle.event_nets.proofs.Laying.{append-none}
use Rattle.event_nets.proofs.overriding.put_kept.Goals as goal

pub loop-gift-init : goal.loop-gift-init
loop-gift-init c = sym (append-none c.args.kept.now.items)

pub loop-gift-preserved : goal.loop-gift-preserved
loop-gift-preserved c =
    let marks = c.args.overridden.now in
    let gifts = c.args.gifts.now in
    let i = c.loop-gift.gift-index in
    let g = c.gift-item.result in
    let old = c.args.kept.now.items in
    let here = cond (get_or marks g.to false) [] (g ∷ []) in
    c.in_ok-put_unless.ensures
    ∙ ap (λ l. l ++ here) c.loop-gift.invariant
    ∙ append_assoc old (filter (λ (x : Gift). not (get_or marks x.to false)) (take i gifts)) here
    ∙ ap (λ l. old ++ l) (sym (kept-more marks gifts i g (omega arith) (sym c.gift-item.is)))

pub returns-in_err-put_unless : goal.returns-in_err-put_unless
returns-in_err-put_unless c = IfOk-from_err _ _ c.from_residual.ensures.0

pub returns : goal.returns
returns c =
    c.loop-gift.invariant
    ∙ ap (λ l. c.args.kept.now.items ++ filter (λ (x : Gift). not (get_or c.args.overridden.now x.to false)) l) (take_all c.loop-gift.gift-index c.args.gifts.now (omega arith))
