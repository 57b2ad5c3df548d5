use Rattle.std.proofs.Common.{◌≡◌, ◌<◌, ◌∙◌, inr, List, length, get_or, take, sym, ap, subst, arith, None}
use Rattle.std.proofs.lemmas.List.{length-take-le}
use Rattle.sat_state.specs.declared.trail.Assigned.{Assigned}
use Rattle.sat_state.specs.Lists.{TrailLists}
use Rattle.sat_search.specs.Learn.{no_assigned}
use Rattle.sat_search.proofs.Restarts.{stops_at}
use Rattle.sat_search.proofs.back.restart.Goals as goal

pub returns-in-Some-clause-back : goal.returns-in-Some-clause-back
returns-in-Some-clause-back c =
    let entries = c.args.trail.now.entries in
    let n = c.in-Some.n in
    let at : c.entries.result.now ≡ entries = c.entries.ensures ∙ ap (λ (t : TrailLists). t.entries) c.is_restart_due.ensures in
    let found : (n < length entries) × ((get_or entries n no_assigned).reason ≡ None) =
    subst (λ (l : List Assigned). (n < length l) × ((get_or l n no_assigned).reason ≡ None)) at c.in-Some.ensures in
    let cut : c.cut.new.trail.entries ≡ take n entries = c.cut.ensures.entries ∙ ap (λ (t : TrailLists). take n t.entries) c.is_restart_due.ensures in
    inr (stops_at entries c.cut.new.trail.entries n found.0 found.1 cut, sym (ap length cut ∙ length-take-le n entries (omega (arith, found.0))))
