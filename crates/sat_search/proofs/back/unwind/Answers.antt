use Rattle.std.proofs.Common.{◌<◌, ℕ, length, List, sym, ◌∙◌, subst, reverse, refl, inl}
use Rattle.std.specs.List.{All}
use Rattle.sat_state.specs.declared.trail.Assigned.{Assigned}
use Rattle.sat_search.specs.Learn.{IsAnchored, IsClear}
use Rattle.sat_search.proofs.Steps.{trail_range}
use Rattle.sat_search.proofs.back.unwind.Goals as goal

pub is_clear-requires : goal.is_clear-requires
is_clear-requires c =
    let n = length c.loop-trail.trail.values in
    subst (λ (w : ℕ). All (λ e. e.dim.var < w) c.entries.result.now) (c.loop-trail.invariant.width ∙ sym c.requires.seen)
    (subst (λ (t : List Assigned). All (λ e. e.dim.var < n) t) (sym c.entries.ensures) (trail_range n c.loop-trail.trail.entries c.loop-trail.invariant.tracks.apart))

pub loop-trail-init : goal.loop-trail-init
loop-trail-init c = record { tracks = c.requires.tracks; width = refl; front = inl refl; kept = refl }

pub returns-clause-anchored : goal.returns-clause-anchored
returns-clause-anchored c = subst (λ (es : List Assigned). IsAnchored c.args.seen.now (reverse es)) c.entries.ensures c.loop-trail-test.ensures

pub returns-clause-front : goal.returns-clause-front
returns-clause-front c = c.loop-trail.invariant.front

pub returns-clause-kept : goal.returns-clause-kept
returns-clause-kept c = c.loop-trail.invariant.kept

pub returns-clause-tracks : goal.returns-clause-tracks
returns-clause-tracks c = c.loop-trail.invariant.tracks

pub returns-clause-width : goal.returns-clause-width
returns-clause-width c = c.loop-trail.invariant.width

pub leave_level-requires-clause-clear : goal.leave_level-requires-clause-clear
leave_level-requires-clause-clear c = subst (λ (es : List Assigned). IsClear c.args.seen.now (reverse es)) c.entries.ensures c.loop-trail-test.ensures

pub leave_level-requires-clause-tracks : goal.leave_level-requires-clause-tracks
leave_level-requires-clause-tracks c = c.loop-trail.invariant.tracks
