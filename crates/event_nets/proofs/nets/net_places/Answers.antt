use Rattle.std.proofs.lemmas.Result.{IfOk-from_err}
use Rattle.std.proofs.Common.{◌++◌, ◌∷◌, [], cond, sym, ap, ◌∙◌}
use Rattle.event_nets.specs.Runs.{begins}
use Rattle.event_nets.proofs.NetPlaces.{filter-range_more}
use Rattle.event_nets.proofs.nets.net_places.Goals as goal

pub loop-place-preserved : goal.loop-place-preserved
loop-place-preserved c =
    let lows = c.args.lows.now in
    let place = c.loop-place.place in
    c.in_ok-put_start.ensures
    ∙ ap (λ l. l ++ cond (begins lows place) (place ∷ []) []) c.loop-place.invariant
    ∙ sym (filter-range_more (begins lows) place)

pub returns-in_err-put_start : goal.returns-in_err-put_start
returns-in_err-put_start c = IfOk-from_err _ _ c.from_residual.ensures.0
