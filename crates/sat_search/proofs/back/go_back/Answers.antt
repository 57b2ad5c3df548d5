use Rattle.std.proofs.Common.{◌≡◌, ◌⊎◌, List, subst, length}
use Rattle.sat_state.specs.declared.trail.Assigned.{Assigned}
use Rattle.sat_search.specs.Learn.{StopsBelow}
use Rattle.sat_search.proofs.Backs.{traced_stops, open_back}
use Rattle.sat_search.proofs.back.go_back.Goals as goal

pub returns-clause-below : goal.returns-clause-below
returns-clause-below c =
    let front = subst (λ (t : List Assigned). (c.unwind.new.trail.entries ≡ t) ⊎ StopsBelow t c.unwind.new.trail.entries) c.cut.ensures.entries c.unwind.ensures.front in
    traced_stops c.args.seen.now c.args.trail.now.entries c.unwind.new.trail.entries c.args.n c.requires.some c.requires.range c.requires.traced c.unwind.ensures.anchored front

pub returns-clause-open : goal.returns-clause-open
returns-clause-open c =
    let front = subst (λ (t : List Assigned). (c.unwind.new.trail.entries ≡ t) ⊎ StopsBelow t c.unwind.new.trail.entries) c.cut.ensures.entries c.unwind.ensures.front in
    open_back c.unwind.new.trail.values (length c.args.trail.now.values) c.args.trail.now.entries c.unwind.new.trail.entries c.args.n c.requires.some c.requires.range c.requires.tracks.apart c.unwind.ensures.tracks front
