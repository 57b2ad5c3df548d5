use Rattle.std.proofs.lemmas.Result.{IfOk-from_err}
use Rattle.std.proofs.Common.{◌≡◌, ◌+◌, ◌++◌, ◌∷◌, [], map, sym, ap, ◌∙◌, append_assoc, zero-add, add-one}
use Rattle.std.specs.List.{range_with_len}
use Rattle.std.proofs.lemmas.List.FromFn.{map-range_with_len_more}
use Rattle.event_nets.specs.Runs.{low_next, net_test, low_in}
use Rattle.event_nets.proofs.NetPlaces.{low_below, low-step}
use Rattle.event_nets.proofs.nets.put_lows.Goals as goal

pub loop-at-preserved : goal.loop-at-preserved
loop-at-preserved c =
    let net = net_test c.args.homes.now c.args.driven.now in
    let start = c.len-start.result in
    let at = c.loop-at.at in
    let old = c.args.lows.now.items in
    let f = low_in net start in
    let below = c.loop-at.below in
    let kept = c.loop-at.invariant in
    let low : c.next_low-low.result ≡ low_in net start at =
    c.next_low-low.ensures
    ∙ ap (λ t. low_next t (start + c.from.result) below) c.is_net.ensures
    ∙ ap (λ a. low_next (net (start + a)) (start + a) below) c.from.ensures
    ∙ ap (λ o. low_next (net (start + at)) (start + at) o) kept.below
    ∙ low-step net start at in
    record {
      start = kept.start;
      lows = c.in_ok-push.ensures.items
          ∙ ap (λ s. s ++ c.next_low-low.result ∷ []) kept.lows
          ∙ append_assoc old (map f (range_with_len 0 at)) (c.next_low-low.result ∷ [])
          ∙ ap (λ x. old ++ (map f (range_with_len 0 at) ++ x ∷ [])) low
          ∙ ap (λ s. old ++ s) (sym (map-range_with_len_more f 0 at at (zero-add at)));
      below = low ∙ ap (λ k. low_below net start k) (sym (add-one at));
    }

pub returns-in_err-push : goal.returns-in_err-push
returns-in_err-push c = IfOk-from_err _ _ c.from_residual.ensures.0
