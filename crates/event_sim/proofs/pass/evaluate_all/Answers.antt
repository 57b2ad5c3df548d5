use Rattle.std.proofs.Common.{◌≡◌, ◌+◌, ◌++◌, ◌∷◌, [], List, take, sym, ap, ◌∙◌, subst, arith}
use Rattle.std.specs.Prelude.{All}
use Rattle.std.proofs.lemmas.List.{take_more}
use Rattle.std.proofs.lemmas.List.Elements.{All-push, All-weaker}
use Rattle.event_nets.specs.declared.gift.Gift.{Gift}
use Rattle.event_sim.specs.Queues.{IsGivenFresh}
use Rattle.event_sim.proofs.Forgetting.{given-rises}
use Rattle.event_sim.proofs.pass.evaluate_all.Goals as goal

pub loop-gift-preserved : goal.loop-gift-preserved
loop-gift-preserved c =
    let gifts = c.args.gifts.now in
    let i = c.loop-gift.gift-index in
    let g = c.gift-item.result in
    let old = c.loop-gift.memo in
    let new = c.evaluate_source.new.memo in
    let more : take (i + 1) gifts ≡ take i gifts ++ g ∷ [] = take_more gifts i g (omega arith) ∙ ap (λ (x : Gift). take i gifts ++ x ∷ []) (sym c.gift-item.is) in
    record {
      memo = c.evaluate_source.ensures.memo;
      right = c.evaluate_source.ensures.right;
      has = subst (λ (l : List Gift). All (IsGivenFresh new) l) (sym more)
          (All-push (IsGivenFresh new) (take i gifts) g
          (All-weaker (IsGivenFresh old) (IsGivenFresh new) (given-rises old new c.evaluate_source.ensures.stay) (take i gifts) c.loop-gift.invariant.has) c.evaluate_source.ensures.has);
      stay = λ k h. c.evaluate_source.ensures.stay k (c.loop-gift.invariant.stay k h);
    }
